use Rattle.std.proofs.Common.{ℕ, ◌≡◌, Some, refl, ap, ◌∙◌, get_or}
use Rattle.std.specs.Prelude.{◌==◌}
use Rattle.std.proofs.lemmas.List.{get_or_default}
use Rattle.net_prefix.specs.declared.addr.Addr.{Addr}
use Rattle.igp_cost.specs.Walks.{asn_of}
use Rattle.igp_cost.specs.Labels.{addr_at, asn_at, nowhere}
use Rattle.igp_cost.proofs.Places.{lookup_at}
use Rattle.igp_cost.proofs.least_trees.rooted.RootedGraph.is_inside.Goals as goal

pub returns : goal.returns
returns c =
    let nodes = c.args.self.now.nodes.now in
    let here : asn_of nodes (addr_at nodes c.args.self.now.source) ≡ Some (asn_at nodes c.args.self.now.source) =
    lookup_at nowhere nodes c.args.self.now.rising c.args.self.now.source
    (addr_at nodes c.args.self.now.source) c.args.self.now.inside refl in
    let there : asn_of nodes (addr_at nodes c.args.at) ≡ Some (asn_at nodes c.args.at) =
    lookup_at nowhere nodes c.args.self.now.rising c.args.at (addr_at nodes c.args.at) c.requires refl in
    let source = ap (λ (node : Addr × ℕ). node.1)
    (get_or_default nodes c.args.self.now.source c.index-self-self.result nowhere c.args.self.now.inside) in
    let other = ap (λ (node : Addr × ℕ). node.1)
    (get_or_default nodes c.args.at c.index-self-at.result nowhere c.requires) in
    let read = (get_or nodes c.args.at c.index-self-at.result).1 in
    rw (here, there) (c.eq.ensures ∙ ap (λ n. n == read) source
    ∙ ap (λ n. asn_at nodes c.args.self.now.source == n) other)
