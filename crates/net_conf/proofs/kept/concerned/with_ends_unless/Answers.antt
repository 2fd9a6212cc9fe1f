use Rattle.std.proofs.Common.{◌≡◌, ◌∙◌, true, get_or, sym, ap, subst}
use Rattle.std.specs.List.{list_any}
use Rattle.std.specs.BTreeMap.{is_at}
use Rattle.net_conf.specs.declared.tables.Ends.{Ends}
use Rattle.net_conf.specs.Configuration.{ends_cmp, is_end}
use Rattle.net_conf.proofs.Carry.{either_one}
use Rattle.net_conf.proofs.KeptTrees.{same_ends}
use Rattle.net_conf.proofs.kept.concerned.with_ends_unless.Goals as goal

pub loop-ends-preserved : goal.loop-ends-preserved
loop-ends-preserved c = record {
  known = λ r out. c.loop-ends.invariant.known r (c.in_ok-add_ends_unless.ensures.known r out);
  added = λ r e out end.
      let i = c.loop-ends.ends-index in
      let d : Ends = record { low = record { 0 = 0 }; high = record { 0 = 0 } } in
      let x : Ends = get_or c.args.sessions.now i d in
      either_one (is_at (ends_cmp e)) c.args.sessions.now i d c.loop-ends-test.true
      (c.loop-ends.invariant.added r e (c.in_ok-add_ends_unless.ensures.known r out) end)
      (λ at. let same : e ≡ x = same_ends e x at in
      subst (λ y. list_any (is_at (ends_cmp y)) c.args.known.now ≡ true) (sym same)
      (c.in_ok-add_ends_unless.ensures.added r out (ap (is_end r) (sym same) ∙ end)));
}
