-- An edit leaves the cells outside its scope as they are.
use Rattle.std.proofs.Common.{◌≡◌, Bool, true, false, cond, List, [], ◌∷◌, ◌++◌, map, filter, Option, Some, None, option_map, unwrap_or, if◌then◌else◌, ◌&&◌, refl, sym, ap, subst, ◌∙◌}
use Rattle.std.proofs.lemmas.Bool.{true≢false}
use Rattle.std.specs.Option.{option_to_list}
use Rattle.std.specs.List.{list_any, filter_map}
use Rattle.std.specs.List.Sorted.{IsStrictlySortedBy}
use Rattle.net_prefix.specs.declared.addr.Addr.{Addr}
use Rattle.net_prefix.specs.Address.{same_addr, addr_cmp}
use Rattle.net_prefix.specs.Prefix.{Prefix, same_prefix}
use Rattle.path_attr.specs.declared.attr.Attr.{Attr}
use Rattle.session_queue.specs.declared.message.Message.{Message}
use Rattle.net_conf.specs.declared.edit.Edit.{Edit}
use Rattle.net_conf.specs.declared.site.SiteConf.{SiteConf}
use Rattle.net_conf.specs.declared.tables.Node.{Node}
use Rattle.net_conf.specs.Configuration.{Configuration, node_at, origins_of}
use Rattle.net_conf.specs.Configured.{IsConfigured}
use Rattle.net_conf.specs.Edits.{edited}
use Rattle.net_conf.specs.RouterSites.{router_site}
use Rattle.net_conf.specs.Sites.{site_at, site_of}
use Rattle.net_conf.proofs.RouterLaws.{site_sessions_in_order}
use Rattle.route_select.specs.declared.candidate.Candidate.{Candidate}
use Rattle.route_select.specs.declared.candidate.Source.TheVariants.{Own}
use Rattle.route_select.specs.declared.candidate.Standing.TheVariants.{Considered}
use Rattle.route_select.specs.Selection.{no_standings, best_of}
use Rattle.reflect_out.specs.Advertising.{advert}
use Rattle.reference_machine.specs.Decision.{own_candidate, added}
use Rattle.reference_machine.specs.Advertising.{advert_of, change_of}
use Rattle.cell_engine.specs.RouterTables.{value_at}
use Rattle.cell_engine.specs.Cells.{Cell, new_cell, effective, standing_of, decided, is_up_in, sends_of, refreshed}
use Rattle.cell_engine.specs.Changes.{AreOverSessionsUp}
use Rattle.cell_engine.specs.Editing.{sends_between}
use Rattle.cell_engine.specs.State.{State, IsConsistent}
use Rattle.cell_engine.specs.Keeping.{kept_from, kept_cell}
use Rattle.net_conf.specs.declared.edit.Scope.{Scope}
use Rattle.net_conf.specs.declared.edit.Scope.TheVariants.{Network, Site, Route}
use Rattle.net_conf.specs.Scopes.{scope, router_in, SitesOfOthersStay, SessionsStay, OriginsAloneChange, OtherOriginsStay}
use Rattle.cell_engine.specs.Sending.{told}
use Rattle.cell_engine.specs.Settled.{IsSettled, AreSettledOutside}
use Rattle.cell_engine.proofs.Decided.{is_cell}
use Rattle.cell_engine.proofs.Offers.{same_addr_true, same_addr_itself, change_none}
use Rattle.cell_engine.proofs.Sites.{refreshed_is_kept, site_of_router}
use Rattle.cell_engine.proofs.Told.{told_one}

-- A SITE AND A CHOICE THAT STAY

-- where nobody is told anything, nothing is sent
nobody_told : (es : List (Addr × Message)) → ((t : Addr) → told t es ≡ []) → es ≡ []
nobody_told [] none = refl
nobody_told (e ∷ es) none =
    let one : told e.0 (e ∷ es) ≡ e.1 ∷ told e.0 es =
    ap (λ b. map (λ (x : Addr × Message). x.1)
    (cond b (e ∷ filter (λ x. same_addr e.0 x.0) es) (filter (λ x. same_addr e.0 x.0) es)))
    (same_addr_itself e.0) in
    let no : e.1 ∷ told e.0 es ≡ [] = sym one ∙ none e.0 in
    cc

module _ (site : SiteConf) (p : Prefix) (chosen : Option Candidate) where
  same_told : (t : Addr) (up : Bool) → is_up_in site t ≡ up →
      (if up then option_to_list (change_of p (advert_of (is_up_in site t) (Some site) t p chosen)
      (advert_of true (Some site) t p chosen)) else []) ≡ []
  same_told t true is =
      ap (λ b. option_to_list (change_of p (advert_of b (Some site) t p chosen)
      (advert_of true (Some site) t p chosen))) is
      ∙ ap option_to_list (change_none p (advert_of true (Some site) t p chosen))
  same_told t false is = refl

  nothing_sent : IsStrictlySortedBy addr_cmp (map (λ x. x.peer) site.sessions) → sends_of site site p chosen chosen ≡ []
  nothing_sent sorted = nobody_told (sends_of site site p chosen chosen)
      (λ t. told_one site site p chosen chosen sorted t ∙ same_told t (is_up_in site t) refl)

-- OTHER ORIGINS

-- the site, where it originates these prefixes
abbrev originating : List Prefix → SiteConf → SiteConf
originating os site = record site { origins = os }

module _ (os : List Prefix) (p : Prefix) where
  -- it decides alike of a prefix that it originates as before, or did not and does not originate
  decided_alike : (site : SiteConf) (routes : List (Addr × Attr)) →
      list_any (same_prefix p) os ≡ list_any (same_prefix p) site.origins →
      decided (Some (originating os site)) p routes ≡ decided (Some site) p routes
  decided_alike site routes alike =
      λ i. record {
        received = routes;
        standings = effective (added (no_standings site.med_always)
            (cond (alike i) ((Own, Considered (own_candidate site.me)) ∷ []) []
            ++ filter_map (standing_of site p routes) site.sessions));
      }

  -- and sends alike
  sent_alike : (site : SiteConf) (had has : Option Candidate) → sends_of site (originating os site) p had has
      ≡ sends_of site site p had has
  unfolding advert
  sent_alike site had has = refl

origins_by : (c : Configuration) (r : Addr) (site : SiteConf) (n : Option Node) →
    option_map (site_at c r) n ≡ Some site → site.origins ≡ origins_of c r
origins_by c r site None h = cc
origins_by c r site (Some n) h = sym (ap (λ (o : Option SiteConf). (unwrap_or o site).origins) h)

origins_in : (c : Configuration) (r : Addr) (site : SiteConf) → router_site c r ≡ Some site →
    site.origins ≡ origins_of c r
unfolding site_of
origins_in c r site at = origins_by c r site (node_at c r) (site_of_router c r site at)

-- A CELL THAT STAYS

-- where the router's site becomes one that decides and sends alike, and no session over which a route came goes down
module _ (c d : Configuration) (configured : IsConfigured c) (r : Addr) (p : Prefix) (h : Cell) (now : SiteConf →
    SiteConf) (becomes : router_site d r ≡ option_map now (router_site c r)) where
  module _ (decides : (site : SiteConf) → router_site c r ≡ Some site →
      decided (Some (now site)) p h.received ≡ decided (Some site) p h.received)
      (sends : (site : SiteConf) (had has : Option Candidate) →
      sends_of site (now site) p had has ≡ sends_of site site p had has) where
    module _ (kept : kept_from d r h.received ≡ h.received) (was : h ≡ decided (router_site c r) p h.received) where
      as_before : (x : Option SiteConf) → router_site c r ≡ x →
          decided (option_map now x) p h.received ≡ decided x p h.received
      as_before None is = refl
      as_before (Some site) is = decides site is

      stays : kept_cell d r p h ≡ h
      stays =
          ap (decided (router_site d r) p) kept
          ∙ ap (λ x. decided x p h.received) becomes
          ∙ as_before (router_site c r) refl
          ∙ sym was

      silent_by : (x : Option SiteConf) → router_site c r ≡ x → sends_between x (option_map now x) p h ≡ []
      unfolding refreshed
      silent_by None is = refl
      silent_by (Some site) is =
          let chosen : Option Candidate = best_of h.standings in
          ap (λ (x : Cell). sends_of site (now site) p chosen (best_of x.standings))
          (refreshed_is_kept d r site (now site) p h (becomes ∙ ap (option_map now) is) ∙ stays)
          ∙ sends site chosen chosen
          ∙ nothing_sent site p chosen (site_sessions_in_order c r site configured (site_of_router c r site is))

      pub settled : IsSettled c d r p h
      settled = record {
        cell = stays;
        silent = ap (λ x. sends_between (router_site c r) x p h) becomes ∙ silent_by (router_site c r) refl;
      }

-- OUTSIDE THE SCOPE

itself : {A : Type 0} (x : Option A) → x ≡ option_map (λ a. a) x
itself None = refl
itself (Some a) = refl

module _ (others : SitesOfOthersStay) (sessions : SessionsStay) (alone : OriginsAloneChange)
    (origins : OtherOriginsStay) (e : State) (sound : IsConsistent e) (configured : IsConfigured e.conf) (edit : Edit)
    (up : AreOverSessionsUp e.conf e.tables) where
  abbrev new : Configuration
  new = edited e.conf edit

  kept_at : (a r : Addr) (p : Prefix) (h : Cell) → router_in (scope edit) ≡ Some a → value_at r p e.tables ≡ Some h →
      kept_from new r h.received ≡ h.received
  kept_at a r p h is at =
      (λ i. filter (λ x. sessions e.conf edit a x.0 r is i) h.received)
      ∙ subst (λ x. kept_from e.conf r (unwrap_or x new_cell).received ≡ (unwrap_or x new_cell).received) at (up r p)

  -- a router whose part of the configuration stays
  other_router : (a r : Addr) (p : Prefix) (h : Cell) → router_in (scope edit) ≡ Some a → same_addr r a ≡ false →
      value_at r p e.tables ≡ Some h → IsSettled e.conf new r p h
  other_router a r p h is off at =
      settled e.conf new configured r p h (λ site. site) (others e.conf edit a r is off ∙ itself (router_site e.conf r))
      (λ site here. refl)
      (λ site had has. refl)
      (kept_at a r p h is at)
      (is_cell e sound r p h at).decided

  -- a prefix other than the one that the router comes or ceases to originate
  other_prefix : (a : Addr) (q p : Prefix) (h : Cell) → scope edit ≡ Route a q → same_prefix p q ≡ false →
      value_at a p e.tables ≡ Some h → IsSettled e.conf new a p h
  other_prefix a q p h is off at =
      let os = origins_of new a in
      settled e.conf new configured a p h (originating os) (alone e.conf edit a q is)
      (λ site here. decided_alike os p site h.received (origins e.conf edit a q p is off
      ∙ ap (list_any (same_prefix p)) (sym (origins_in e.conf a site here))))
      (sent_alike os p)
      (kept_at a a p h (ap router_in is) at)
      (is_cell e sound a p h at).decided

  -- a cell outside the scope of the edit stays, and nothing is sent for it
  pub settled_outside : AreSettledOutside (scope edit) e.conf new e.tables
  settled_outside = by (scope edit) refl
    where
      route_by : (a : Addr) (q : Prefix) (r : Addr) (p : Prefix) (h : Cell) (here same : Bool) →
          scope edit ≡ Route a q → value_at r p e.tables ≡ Some h → same_addr r a ≡ here → same_prefix p q ≡ same →
          (here && same) ≡ false → IsSettled e.conf new r p h
      route_by a q r p h true true is at here same out = absurd (true≢false out)
      route_by a q r p h true false is at here same out =
          let this : r ≡ a = same_addr_true r a here in
          subst (λ x. IsSettled e.conf new x p h) (sym this)
          (other_prefix a q p h is same (subst (λ x. value_at x p e.tables ≡ Some h) this at))
      route_by a q r p h false b is at here same out = other_router a r p h (ap router_in is) here at

      by : (s : Scope) → scope edit ≡ s → AreSettledOutside s e.conf new e.tables
      by Network is r p h at out = absurd (true≢false out)
      by (Site a) is r p h at out = other_router a r p h (ap router_in is) out at
      by (Route a q) is r p h at out = route_by a q r p h (same_addr r a) (same_prefix p q) is at refl refl out
