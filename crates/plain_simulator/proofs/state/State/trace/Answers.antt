use Rattle.std.proofs.Common.{◌≡◌, ◌∙◌, suc, ◌-◌, List, length, sym, ap, subst}
use Rattle.net_prefix.specs.declared.addr.Addr.{Addr}
use Rattle.net_prefix.specs.Prefix.{Prefix}
use Rattle.reference_machine.specs.declared.tracing.Look.TheVariants.{Forwards}
use Rattle.reference_machine.specs.Tracing.{trace, trace_from, look}
use Rattle.reference_machine.proofs.Traces.{HaveForwarded, none_have, one_more_has, all_left, ends_here, goes_on, fewer_left}
use Rattle.plain_simulator.proofs.state.State.trace.Goals as goal

pub hop-init : goal.hop-init
hop-init g c =
    let Have : List (Addr × Prefix) → Type 0 = λ hops. HaveForwarded c.args.self.now hops in
    record {
      have = subst Have (sym c.new-hops.ensures) (none_have c.args.self.now);
      same = all_left c.args.self.now c.args.target c.new-hops.result c.args.router c.new-hops.ensures;
    }

pub returns-in-Ends : goal.returns-in-Ends
unfolding trace
returns-in-Ends g c =
    let s = c.args.self.now in
    sym (ends_here s c.args.target c.hop.hops c.hop.at c.hop.invariant.have c.in-Ends.ending
    (sym (c.in_ok-ending.ensures ∙ ap (λ hops. look s c.args.target hops c.hop.at) c.as_slice.ensures)
    ∙ c.in-Ends.is))
    ∙ c.hop.invariant.same

pub hop-smaller : goal.hop-smaller
hop-smaller g c = fewer_left c.args.self.now c.hop.hops c.push.new.self c.hop.at c.in-Forwards.prefix
    c.hop.invariant.have c.in_ok-push-in-Forwards.ensures.ok

pub hop-preserved : goal.hop-preserved
hop-preserved g c =
    let s = c.args.self.now in
    let is : look s c.args.target c.hop.hops c.hop.at ≡ Forwards c.in-Forwards.prefix c.in-Forwards.next =
    sym (c.in_ok-ending.ensures ∙ ap (λ hops. look s c.args.target hops c.hop.at) c.as_slice.ensures)
    ∙ c.in-Forwards.is in
    let Have : List (Addr × Prefix) → Type 0 = λ hops. HaveForwarded s hops in
    record {
      have = subst Have (sym c.in_ok-push-in-Forwards.ensures.ok)
          (one_more_has s c.args.target c.hop.hops c.hop.at c.in-Forwards.prefix c.in-Forwards.next
          c.hop.invariant.have is);
      same =
          ap (λ hops. trace_from (suc (length s.conf.nodes) - length hops) s c.args.target hops c.in-Forwards.next)
          c.in_ok-push-in-Forwards.ensures.ok
          ∙ sym (goes_on s c.args.target c.hop.hops c.hop.at c.hop.invariant.have c.in-Forwards.prefix
          c.in-Forwards.next is)
          ∙ c.hop.invariant.same;
    }
