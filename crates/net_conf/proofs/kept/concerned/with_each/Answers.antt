use Rattle.std.proofs.Common.{◌∙◌, ◌||◌, get_or}
use Rattle.std.specs.BTreeMap.{is_at}
use Rattle.std.proofs.lemmas.List.Folds.{list_any_more}
use Rattle.net_prefix.specs.declared.addr.Addr.{Addr}
use Rattle.net_prefix.specs.Address.{addr_cmp}
use Rattle.net_conf.proofs.Carry.{not_among}
use Rattle.net_conf.proofs.kept.concerned.with_each.Goals as goal

pub loop-addr-preserved : goal.loop-addr-preserved
loop-addr-preserved c =
    let d : Addr = record { 0 = 0 } in
    let i = c.loop-addr.addr-index in
    let x : Addr = get_or c.args.more.now i d in
    record {
      known = λ r out. c.loop-addr.invariant.known r
          (not_among x c.loop-addr.all.keys c.insert.new.self.keys c.in_ok-insert.ensures.keys r out).1;
      added = λ r out.
          let apart = not_among x c.loop-addr.all.keys c.insert.new.self.keys c.in_ok-insert.ensures.keys r out in
          list_any_more (is_at (addr_cmp r)) c.args.more.now i d c.loop-addr-test.true
          ∙ (λ k. c.loop-addr.invariant.added r apart.1 k || apart.0 k);
    }
