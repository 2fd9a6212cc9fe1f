use Rattle.std.proofs.Common.{◌≡◌, ◌+◌, ◌-◌, ◌<◌, min, Option, Some, sym, subst, ◌∙◌, arith, rules}
use Rattle.net_prefix.specs.declared.addr.Addr.{Addr}
use Rattle.convergence.specs.Waiting.{IsNextWaiting}
use Rattle.convergence.specs.Places.{place}
use Rattle.converge_text.proofs.Directions.{all_listed, one_listed}
use Rattle.convergence.proofs.Places.{place_grows}
use Rattle.converge_text.proofs.listing.write_waiting.Goals as goal

pub directions-preserved : goal.directions-preserved
directions-preserved g c =
    let s = c.args.machine.now in
    let next = subst (λ (found : Option (Addr × Addr)). IsNextWaiting s c.directions.past found) c.in-Some.is
    c.next_waiting.ensures in
    let more : c.saturating_add-count.result ≡ min (c.directions.count + 1) 18446744073709551615 =
    omega (arith, c.saturating_add-count.ensures) in
    record {
      fits = let h = c.next_waiting.type_inv in let k = c.in-Some.is in search rules;
      listed = one_listed s c.directions.past c.directions.count c.args.output.now c.directions.written
          c.directions.output c.in-Some.from c.in-Some.to c.in-Some-queued.queued c.saturating_add-count.result
          c.write_queued-written.result c.write_queued-written.new.output next
          (sym c.queued.ensures ∙ c.in-Some-queued.is) more c.write_queued-written.ensures
          c.directions.invariant.listed;
    }

pub returns : goal.returns
returns g c =
    let s = c.args.machine.now in
    let next = subst (λ (found : Option (Addr × Addr)). IsNextWaiting s c.directions.past found) c.in_default.is
    c.next_waiting.ensures in
    all_listed s c.directions.past c.directions.count c.args.output.now c.directions.written c.directions.output
    c.write_count.result c.write_count.new.output next c.write_count.ensures c.directions.invariant.listed

pub directions-smaller : goal.directions-smaller
directions-smaller g c =
    let from = c.in-Some.from in
    let to = c.in-Some.to in
    let past = c.directions.past in
    let found : Option (Addr × Addr) = Some (from, to) in
    let next = subst (λ (x : Option (Addr × Addr)). IsNextWaiting c.args.machine.now past x) c.in-Some.is
    c.next_waiting.ensures in
    let sender : from.0 < 4294967296 = let h = c.next_waiting.type_inv in let k = c.in-Some.is in search rules in
    let receiver : to.0 < 4294967296 = let h = c.next_waiting.type_inv in let k = c.in-Some.is in search rules in
    let grows = place_grows past from to c.directions.invariant.fits receiver next.past in
    let less : 18446744073709551617 - place found < 18446744073709551617 - place past =
    omega (arith, grows, sender, receiver) in
    less
