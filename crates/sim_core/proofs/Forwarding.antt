-- How a router forwards by its longest match.
use Rattle.std.proofs.Common.{◌≡◌, false, cond, Some, None, sym, ap, ◌∙◌}
use Rattle.std.specs.Option.{option_and_then}
use Rattle.net_prefix.specs.declared.addr.Addr.{Addr}
use Rattle.net_prefix.specs.Prefix.{Prefix}
use Rattle.igp_cost.specs.Trees.{Reached as Costs}
use Rattle.net_conf.specs.Configuration.{is_virtual}
use Rattle.net_conf.specs.Costs.{costs_of}
use Rattle.net_conf.specs.RouterSites.{router_site}
use Rattle.net_conf.specs.Sites.{site_of}
use Rattle.route_select.specs.declared.candidate.Candidate.{Candidate}
use Rattle.route_select.specs.Selection.{best_of}
use Rattle.sim_event.specs.declared.reply.TraceEnd.TheVariants.{NoRoute}
use Rattle.reference_machine.specs.declared.tracing.Look.TheVariants.{Ends}
use Rattle.reference_machine.specs.Decision.{best, standings}
use Rattle.reference_machine.specs.Tracing.{longest_match, by_route, by_prefix}
use Rattle.cell_engine.specs.State.{State, network, all_entries}

module _ (e : State) (r d : Addr) where
  -- it ends without a match
  pub ends_without_match : longest_match (network e) r d ≡ None →
      by_prefix (network e) r (longest_match (network e) r d) ≡ Ends (NoRoute r)
  ends_without_match none = ap (by_prefix (network e) r) none

  -- and where no router stands
  pub ends_without_site : (p : Prefix) → is_virtual e.conf r ≡ false → router_site e.conf r ≡ None →
      longest_match (network e) r d ≡ Some p →
      by_prefix (network e) r (longest_match (network e) r d) ≡ Ends (NoRoute r)
  unfolding best network
  ends_without_site p router none is =
      ap (by_prefix (network e) r) is
      ∙ ap (by_route (costs_of e.conf r) r p)
      (ap (option_and_then (λ site. best_of (standings site p (all_entries e.tables))))
      (ap (λ b. cond b None (site_of e.conf r)) (sym router) ∙ none))

  -- by the route that is chosen, over the router's costs
  pub goes_by_best : (p : Prefix) (b : Candidate) (costs : Costs) → costs ≡ costs_of e.conf r →
      longest_match (network e) r d ≡ Some p → best (network e) r p ≡ Some b →
      by_prefix (network e) r (longest_match (network e) r d) ≡ by_route costs r p (Some b)
  unfolding network
  goes_by_best p b costs same is chosen = ap (by_prefix (network e) r) is ∙ (λ i. by_route (sym same i) r p (chosen i))
