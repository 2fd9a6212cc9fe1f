use Rattle.std.proofs.Common.{◌≡◌, ◌≤◌, ◌∙◌, true, length, sym, ap, subst, arith}
use Rattle.std.proofs.lemmas.Result.{IfOk-weaker}
use Rattle.std.proofs.lemmas.List.Filters.{dedup_is}
use Rattle.net_prefix.specs.declared.addr.Addr.{Addr}
use Rattle.net_conf.specs.Concerned.{is_among}
use Rattle.net_conf.specs.Costs.{nodes_of}
use Rattle.net_conf.specs.Members.{near, nodes_at, AreNear}
use Rattle.net_conf.proofs.Near.{all_near, some_near, once_sorted, once_among}
use Rattle.net_conf.proofs.tables.conf_tables.ConfTables.near_nodes.Goals as goal

pub returns-then-len-node_count : goal.returns-then-len-node_count
returns-then-len-node_count c =
    let s = c.args.self.now in
    let xs = near c.args.members.now c.args.edges.now in
    let named = c.in_ok-addrs.addrs.items in
    let sorted = c.sort_unstable.new.self.items in
    let kept = c.dedup.new.self.items in
    let once = dedup_is _ sorted kept c.dedup.ensures.filtered in
    let rising = once_sorted named sorted kept c.sort_unstable.ensures.permutation
    c.sort_unstable.ensures.sorted once in
    let few : length kept ≤ length s.nodes = omega (
      arith,
      c.dedup.ensures.bound,
      c.sort_unstable.ensures.len,
      c.len.ensures,
      c.node_count.ensures,
      c.if-len-node_count.true,
    ) in
    let all : (x : Addr) → is_among x xs ≡ true →
    is_among x kept ≡ true =
    λ x among. once_among named sorted kept c.sort_unstable.ensures.permutation c.sort_unstable.ensures.sorted once
    x (ap (is_among x) c.in_ok-addrs.ensures ∙ among) in
    IfOk-weaker c.nodes_at.result (λ v. v.items ≡ nodes_at s c.deref.result.now) (λ v. AreNear s xs v.items)
    (λ v is. subst (AreNear s xs) (sym (is ∙ ap (nodes_at s) c.deref.ensures.value))
    (some_near s xs kept rising few all))
    c.nodes_at.ensures

pub returns : goal.returns
returns c =
    let s = c.args.self.now in
    let xs = near c.args.members.now c.args.edges.now in
    IfOk-weaker c.node_list.result (λ v. v.items ≡ nodes_of s) (λ v. AreNear s xs v.items)
    (λ v is. subst (AreNear s xs) (sym is) (all_near s xs c.node_list.ensures.ascending))
    c.node_list.ensures.list
