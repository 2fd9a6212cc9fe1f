-- An edit decides anew the cells at which a route stands otherwise, and none that it does not touch.
use Rattle.std.proofs.Common.{◌≡◌, Bool, true, false, cond, List, [], ◌∷◌, Option, Some, None, option_map, unwrap_or, refl, sym, ap, ◌∙◌}
use Rattle.std.proofs.lemmas.Option.{none-some}
use Rattle.std.specs.Option.{option_map_or, option_or}
use Rattle.std.specs.FinMap as finite
use Rattle.net_prefix.specs.declared.addr.Addr.{Addr}
use Rattle.net_prefix.specs.Prefix.{Prefix}
use Rattle.path_attr.specs.declared.attr.Attr.{Attr}
use Rattle.net_conf.specs.Configuration.{Configuration, node_at}
use Rattle.net_conf.specs.RouterSites.{router_site}
use Rattle.net_conf.specs.Sites.{site_at, site_of, session_with}
use Rattle.net_conf.specs.declared.site.SiteConf.{SiteConf}
use Rattle.net_conf.specs.declared.site.SiteSession.{SiteSession}
use Rattle.net_conf.specs.declared.tables.Node.{Node}
use Rattle.route_select.specs.Selection.{Standings, source_cmp, no_standings, standing_from}
use Rattle.route_select.specs.declared.candidate.Source.{Source}
use Rattle.route_select.specs.declared.candidate.Source.TheVariants.{Own, Peer as FromPeer}
use Rattle.route_select.specs.declared.candidate.Standing.{Standing}
use Rattle.route_select.specs.declared.candidate.Standing.TheVariants.{Considered}
use Rattle.reference_machine.specs.Decision.{own_candidate, is_originated, added, standings, peer_standing}
use Rattle.cell_engine.specs.Cells.{Cell, effective, route_of, standings_of, decided}
use Rattle.route_select.proofs.EntryLemmas.{source_total}
use Rattle.cell_engine.proofs.StandingsAfter.{ArePeersInOrder, stood, stood_or, own_stands, peer_stands}
use Rattle.cell_engine.specs.State.{State, IsConsistent, cell_at, all_entries, network}
use Rattle.cell_engine.specs.Decisions.{standings_at}
use Rattle.cell_engine.proofs.Decided.{cell_decided, standings_at_cell}
use Rattle.cell_engine.proofs.Sites.{site_of_router}

-- HOW ROUTES STAND

me_by : (c : Configuration) (r : Addr) (site : SiteConf) (n : Option Node) → option_map (site_at c r) n ≡ Some site →
    site.me ≡ r
me_by c r site None h = cc
me_by c r site (Some n) h = sym (ap (λ (o : Option SiteConf). (unwrap_or o site).me) h)

me_in : (c : Configuration) (r : Addr) (site : SiteConf) → router_site c r ≡ Some site → site.me ≡ r
unfolding site_of
me_in c r site at = me_by c r site (node_at c r) (site_of_router c r site at)

-- in the network routes stand as in the cell
pub standings_in_cell : (e : State) → IsConsistent e → (r : Addr) (p : Prefix) →
    standings_at (network e) r p ≡ (cell_at r p e.tables).standings
unfolding network
standings_in_cell e sound r p = by (router_site e.conf r) refl
  where
    by : (o : Option SiteConf) → router_site e.conf r ≡ o →
        option_map_or (λ site. effective (standings site p (all_entries e.tables))) (router_site e.conf r)
        (no_standings false) ≡ (cell_at r p e.tables).standings
    by None at =
        ap (λ o. option_map_or (λ site. effective (standings site p (all_entries e.tables))) o (no_standings false)) at
        ∙ sym (ap (λ (h : Cell). h.standings) (cell_decided e sound r p
        ∙ ap (λ o. decided o p (cell_at r p e.tables).received) at))
    by (Some site) at =
        ap (λ o. option_map_or (λ site. effective (standings site p (all_entries e.tables))) o (no_standings false)) at
        ∙ standings_at_cell site p e.tables sound.by_address
        ∙ ap (λ x. standings_of site p (cell_at x p e.tables).received) (me_in e.conf r site at)
        ∙ sym (ap (λ (h : Cell). h.standings) (cell_decided e sound r p
        ∙ ap (λ o. decided o p (cell_at r p e.tables).received) at))

-- STANDINGS OF A SITE

module _ (site : SiteConf) (p : Prefix) (routes : List (Addr × Attr)) where
  own_by : (own : Bool) → is_originated site p ≡ own → standing_from (standings_of site p routes) Own
      ≡ cond own (Some (Considered (own_candidate site.me))) None
  own_by true is =
      own_stands site p routes
      ∙ ap (λ b. standing_from
      (added (no_standings site.med_always) (cond b ((Own, Considered (own_candidate site.me)) ∷ []) [])) Own) is
      ∙ finite.get-insert source_total finite.empty Own (Considered (own_candidate site.me)) Own
  own_by false is =
      own_stands site p routes
      ∙ ap (λ b. standing_from
      (added (no_standings site.med_always) (cond b ((Own, Considered (own_candidate site.me)) ∷ []) [])) Own) is
      ∙ finite.get-empty source_cmp Own

  -- the standing of the router's own route
  pub own_standing : standing_from (standings_of site p routes) Own
      ≡ cond (is_originated site p) (Some (Considered (own_candidate site.me))) None
  own_standing = own_by (is_originated site p) refl

  module _ (sorted : ArePeersInOrder site.sessions) (u : Addr) (x : SiteSession) (attr : Attr)
      (found : session_with site u ≡ Some x) (peer : x.peer ≡ u) (route : route_of routes u ≡ Some attr)
      (up : x.up ≡ true) where
    -- the standing of a peer's route
    pub peer_has_standing : standing_from (standings_of site p routes) (FromPeer u) ≡ Some (peer_standing site p x attr)
    peer_has_standing =
        peer_stands site p routes sorted u
        ∙ ap (λ o. stood_or site p o (route_of routes) None) found
        ∙ ap (λ o. option_or (stood site p x o) None) (ap (route_of routes) peer ∙ route)
        ∙ ap (λ b. option_or (option_map (λ (e : Source × Standing). e.1)
        (cond b (Some (FromPeer x.peer, peer_standing site p x attr)) None)) None) up

-- a standing that is there is one
pub some_stands : (m : Standings) (q : Source) (s : Standing) → standing_from m q ≡ Some s → m ≡ no_standings false → ⊥
some_stands m q s at is = none-some s (sym (ap (λ n. standing_from n q) is ∙ finite.get-empty source_cmp q) ∙ at)

-- standings that differ at a source differ
pub differ_at : (m n : Standings) (q : Source) → (standing_from m q ≡ standing_from n q → ⊥) → m ≡ n → ⊥
differ_at m n q apart same = apart (ap (λ o. standing_from o q) same)
