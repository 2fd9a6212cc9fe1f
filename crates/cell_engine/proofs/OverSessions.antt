-- Routes over sessions that are up: they stay so when an edit is made, and when a message is taken.
use Rattle.std.proofs.Common.{◌≡◌, Bool, true, false, cond, List, [], ◌∷◌, filter, Option, Some, None, option_map, unwrap_or, refl, sym, ap, subst, ◌∙◌}
use Rattle.std.specs.declared.cmp.Ordering.TheVariants.{Less, Equal, Greater}
use Rattle.std.specs.Ordering.{match_ordering, is_eq, eq_by_cmp}
use Rattle.std.specs.List.{AllByRecursion}
use Rattle.std.specs.Map.{remove_entry}
use Rattle.std.specs.BTreeMap.{insert_entry, is_at}
use Rattle.net_prefix.specs.declared.addr.Addr.{Addr}
use Rattle.net_prefix.specs.Address.{addr_cmp}
use Rattle.net_prefix.specs.Prefix.{Prefix, prefix_cmp}
use Rattle.net_prefix.specs.Orders.{addr_exact}
use Rattle.path_attr.specs.declared.attr.Attr.{Attr}
use Rattle.session_queue.specs.declared.message.Message.{Message}
use Rattle.session_queue.specs.declared.message.Message.TheVariants.{Update, Withdraw}
use Rattle.net_conf.specs.Configuration.{Configuration}
use Rattle.net_conf.specs.Costs.{is_up}
use Rattle.net_conf.specs.RouterSites.{router_site}
use Rattle.net_conf.specs.declared.site.SiteConf.{SiteConf}
use Rattle.net_conf.proofs.KeptTrees.{equal_when}
use Rattle.prefix_table.specs.Tables.{Table}
use Rattle.cell_engine.specs.RouterTables.{value_at, with_value}
use Rattle.cell_engine.specs.Cells.{Cell, new_cell, with_news, delivered, stored}
use Rattle.cell_engine.specs.Keeping.{kept_from, kept_cell, kept_tables}
use Rattle.cell_engine.specs.Changes.{AreOverSessionsUp}
use Rattle.cell_engine.proofs.Decided.{decided_received, value_with_cell}
use Rattle.cell_engine.proofs.Kept.{value_kept}

-- ROUTES BY SENDER

module _ (test : Addr → Bool) where
  abbrev passing : List (Addr × Attr) → List (Addr × Attr)
  passing es = filter (λ e. test e.0) es

  abbrev AllPass : List (Addr × Attr) → Type 0
  AllPass es = AllByRecursion (λ e. test e.0 ≡ true) es

  -- what passes passes
  passing_pass : (es : List (Addr × Attr)) → AllPass (passing es)
  passing_pass [] = tt
  passing_pass (e ∷ es) =
      elim (test e.0) as (λ b. test e.0 ≡ b → AllPass (cond b (e ∷ passing es) (passing es))) [
        | true ↦ λ is. (is, passing_pass es)
        | false ↦ λ is. passing_pass es
      ] refl

  -- where all pass, all are left
  all_left : (es : List (Addr × Attr)) → AllPass es → passing es ≡ es
  all_left [] all = refl
  all_left (e ∷ es) all = ap (λ b. cond b (e ∷ passing es) (passing es)) all.0 ∙ ap (λ l. e ∷ l) (all_left es all.1)

  -- and where all are left, all pass
  pub all_pass : (es : List (Addr × Attr)) → passing es ≡ es → AllPass es
  all_pass es left = subst AllPass left (passing_pass es)

  all_pass_with : (u : Addr) (attr : Attr) → test u ≡ true → (es : List (Addr × Attr)) → AllPass es →
      AllPass (insert_entry addr_cmp es u attr)
  all_pass_with u attr is [] all = (is, tt)
  all_pass_with u attr is (e ∷ es) all =
      elim (addr_cmp u e.0) as (λ o.
      AllPass (match_ordering o ((u, attr) ∷ e ∷ es) ((e.0, attr) ∷ es) (e ∷ insert_entry addr_cmp es u attr))) [
        | Less ↦ (is, all)
        | Equal ↦ all
        | Greater ↦ (all.0, all_pass_with u attr is es all.1)
      ]

  all_pass_without : (u : Addr) (es : List (Addr × Attr)) → AllPass es → AllPass (remove_entry (is_at (addr_cmp u)) es)
  all_pass_without u [] all = all
  all_pass_without u (e ∷ es) all =
      elim (is_eq (addr_cmp u e.0)) as (λ b. AllPass (cond b es (e ∷ remove_entry (is_at (addr_cmp u)) es))) [
        | true ↦ all.1
        | false ↦ (all.0, all_pass_without u es all.1)
      ]

  -- a message of a sender that passes
  all_pass_news : (u : Addr) (m : Message) (es : List (Addr × Attr)) → test u ≡ true → AllPass es →
      AllPass (with_news u m es)
  all_pass_news u (Update p attr) es is all = all_pass_with u attr is es all
  all_pass_news u (Withdraw p) es is all = all_pass_without u es all

-- TABLES

module _ (c : Configuration) where
  -- all routes in the router's cell came over sessions that are up
  abbrev IsOverSessionsUp : Addr → Cell → Type 0
  IsOverSessionsUp r h = kept_from c r h.received ≡ h.received

  kept_is_over : (r : Addr) (p : Prefix) (h : Cell) → IsOverSessionsUp r (kept_cell c r p h)
  kept_is_over r p h =
      subst (λ routes. kept_from c r routes ≡ routes)
      (sym (decided_received (router_site c r) p (kept_from c r h.received)))
      (all_left (λ u. is_up c u r) (kept_from c r h.received) (passing_pass (λ u. is_up c u r) h.received))

  kept_or_none : (r : Addr) (p : Prefix) (x : Option Cell) →
      IsOverSessionsUp r (unwrap_or (option_map (kept_cell c r p) x) new_cell)
  kept_or_none r p None = refl
  kept_or_none r p (Some h) = kept_is_over r p h

-- so it is once each cell was decided anew
pub up_after : (d : Configuration) (ts : List (Addr × Table Cell)) → AreOverSessionsUp d (kept_tables d ts)
up_after d ts r p = subst (λ x. IsOverSessionsUp d r (unwrap_or x new_cell)) (sym (value_kept d r p ts))
    (kept_or_none d r p (value_at r p ts))

-- and still, where a cell with such routes is put in
pub up_with_cell : (c : Configuration) (ts : List (Addr × Table Cell)) (r : Addr) (p : Prefix) (h : Cell) →
    AreOverSessionsUp c ts → kept_from c r h.received ≡ h.received → AreOverSessionsUp c (with_value r p h ts)
up_with_cell c ts r p h up is s q =
    subst (λ x. IsOverSessionsUp c s (unwrap_or x new_cell)) (sym (value_with_cell r p h ts s q))
    (by (eq_by_cmp addr_cmp s r) (eq_by_cmp prefix_cmp q p) refl)
  where
    by : (here same : Bool) → eq_by_cmp addr_cmp s r ≡ here →
        IsOverSessionsUp c s (unwrap_or (cond here (cond same (Some h) (value_at s q ts)) (value_at s q ts)) new_cell)
    by true true at = subst (λ x. IsOverSessionsUp c x h) (sym (addr_exact s r (equal_when (addr_cmp s r) at))) is
    by true false at = up s q
    by false same at = up s q

-- MESSAGES

-- a message that came over a session that is up leaves such routes
pub news_kept : (c : Configuration) (r u : Addr) (routes : List (Addr × Attr)) (m : Message) → is_up c u r ≡ true →
    kept_from c r routes ≡ routes → kept_from c r (with_news u m routes) ≡ with_news u m routes
news_kept c r u routes m is kept =
    let test : Addr → Bool = λ v. is_up c v r in
    all_left test (with_news u m routes) (all_pass_news test u m routes is (all_pass test routes kept))

pub delivered_kept : (c : Configuration) (r u : Addr) (site : SiteConf) (h : Cell) (m : Message) → is_up c u r ≡ true →
    kept_from c r h.received ≡ h.received → kept_from c r (delivered site h u m).cell.received
    ≡ (delivered site h u m).cell.received
unfolding delivered
delivered_kept c r u site h m is kept = news_kept c r u h.received m is kept

pub stored_kept : (c : Configuration) (r u : Addr) (h : Cell) (m : Message) → is_up c u r ≡ true →
    kept_from c r h.received ≡ h.received → kept_from c r (stored h u m).cell.received ≡ (stored h u m).cell.received
unfolding stored
stored_kept c r u h m is kept = news_kept c r u h.received m is kept
