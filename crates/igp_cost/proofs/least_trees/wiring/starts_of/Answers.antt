use Rattle.std.proofs.Common.{◌<◌, ◌+◌, ◌≤◌, length, get_or, rules, arith}
use Rattle.std.proofs.lemmas.Bool.Decides.{nat_tests}
use Rattle.std.proofs.lemmas.List.Elements.{All-push}
use Rattle.igp_cost.proofs.Links.{Parts, parted_push, each_from}
use Rattle.igp_cost.proofs.least_trees.wiring.starts_of.Goals as goal

pub loop-at-preserved : goal.loop-at-preserved
loop-at-preserved c =
    let links = c.args.links.now in
    let n = c.loop-at.at in
    let start = c.next_start-start.result in
    record {
      count = search rules;
      start = c.next_start-start.ensures.within;
      passed = λ k d from lt.
          let test = c.next_start-start.ensures.point.0 k d from lt in
          let below : (get_or links k d).from < n = grind (arith, nat_tests, test) in
          let still : (get_or links k d).from < n + 1 = omega (arith, below) in
          grind (arith, nat_tests, still);
      within = rw (c.in_ok-push.ensures.items)
          (All-push (λ s. s ≤ length links) c.loop-at.starts.items start c.loop-at.invariant.within
          c.next_start-start.ensures.within);
      parted = rw (c.in_ok-push.ensures.items) (parted_push (Parts links) c.loop-at.starts.items n start
          (search rules) c.loop-at.invariant.parted c.next_start-start.ensures.point);
    }

pub returns : goal.returns
returns c =
    let starts = c.loop-at.starts.items in
    let all = length c.args.nodes.now + 1 in
    record {
      count = search rules;
      within = c.loop-at.invariant.within;
      each = λ v k link v_in k_in is from. each_from c.args.links.now v (get_or starts v 0)
          (get_or starts (v + 1) 0) k link (c.loop-at.invariant.parted v (search rules))
          (c.loop-at.invariant.parted (v + 1) (search rules)) k_in is from;
    }
