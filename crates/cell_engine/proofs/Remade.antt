-- Cells that can change, one after another.
use Rattle.std.proofs.Common.{◌≡◌, false, List, [], ◌++◌, Option, Some, None, unwrap_or, refl, sym, ap, ◌∙◌, append_assoc}
use Rattle.std.proofs.lemmas.List.{append-nil}
use Rattle.std.proofs.lemmas.Option.{none-some, same_Some}
use Rattle.net_prefix.specs.declared.addr.Addr.{Addr}
use Rattle.net_prefix.specs.Prefix.{Prefix}
use Rattle.net_conf.specs.Configuration.{Configuration}
use Rattle.net_conf.specs.RouterSites.{router_site}
use Rattle.net_conf.specs.declared.site.SiteConf.{SiteConf}
use Rattle.route_select.specs.Selection.{no_standings}
use Rattle.cell_engine.specs.Cells.{Cell, Outcome, decided, refreshed}
use Rattle.cell_engine.specs.SiteMoves.{SitePair}
use Rattle.cell_engine.specs.Keeping.{kept_from, kept_cell}
use Rattle.cell_engine.specs.Editing.{sends_between}
use Rattle.cell_engine.proofs.Sites.{refreshed_is_kept}
use Rattle.cell_engine.specs.Becomings.{pair_of}

-- ONE CELL

-- what becomes of the cell, and what is sent for that
abbrev pub remade : Configuration → Option SiteConf → Option SiteConf → Addr → Prefix → Cell → Outcome
remade c old new r p h = record { cell = kept_cell c r p h; sends = sends_between old new p h }

-- at a router
pub remade_by_router : (c : Configuration) (old : Option SiteConf) (site : SiteConf) (r : Addr) (p : Prefix)
    (h : Cell) → router_site c r ≡ Some site → refreshed (unwrap_or old site) site p h ≡ remade c old (Some site) r p h
remade_by_router c old site r p h is = λ i. record {
  cell = refreshed_is_kept c r (unwrap_or old site) site p h is i;
  sends = (refreshed (unwrap_or old site) site p h).sends;
}

-- where both parts are compared, these are they
pub pair_some : (old new : Option SiteConf) (s : SitePair) → Some s ≡ pair_of old new → (old ≡ Some s.old)
    × (new ≡ Some s.new)
pair_some (Some a) (Some b) s is =
    let same = sym (same_Some s (record { old = a; new = b }) is) in
    (ap (λ x. Some x.old) same, ap (λ x. Some x.new) same)
pair_some (Some a) None s is = absurd (none-some s (sym is))
pair_some None (Some b) s is = absurd (none-some s (sym is))
pair_some None None s is = absurd (none-some s (sym is))

-- and where they are not, a router that is there is new
pub pair_none : (old : Option SiteConf) (new : SiteConf) → None ≡ pair_of old (Some new) → old ≡ None
pair_none None new is = refl
pair_none (Some a) new is = absurd (none-some (record { old = a; new = new }) is)

-- at a virtual peer, or where nobody is
pub remade_by_peer : (c : Configuration) (r : Addr) (p : Prefix) (h : Cell) → router_site c r ≡ None →
    ◌≡◌ {A = Cell} (record { received = kept_from c r h.received; standings = no_standings false }) (kept_cell c r p h)
remade_by_peer c r p h is = ap (λ site. decided site p (kept_from c r h.received)) (sym is)

-- IN A WALK

-- what is gathered, with what comes next, and what is left
pub gathered_more : {A : Type 0} (made more rest left all next : List A) → more ++ rest ≡ left → made ++ left ≡ all →
    next ≡ made ++ more → next ++ rest ≡ all
gathered_more made more rest left all next is before now = ap (λ l. l ++ rest) now ∙ append_assoc made more rest
    ∙ ap (λ l. made ++ l) is ∙ before

-- what is gathered is all where nothing is left
pub gathered_all : {A : Type 0} (made left all : List A) → left ≡ [] → made ++ left ≡ all → made ≡ all
gathered_all made left all none before = sym (append-nil made) ∙ ap (λ l. made ++ l) (sym none) ∙ before
