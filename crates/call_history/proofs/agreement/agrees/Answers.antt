use Rattle.std.proofs.Common.{◌≡◌, length, ap, ◌∙◌, arith}
use Rattle.std.proofs.lemmas.List.{length-map}
use Rattle.call_history.specs.Written.{caller_of}
use Rattle.call_history.proofs.Calls.{reads_all}
use Rattle.call_history.proofs.agreement.agrees.Goals as goal

pub returns : goal.returns
returns c =
    let as_many : length c.args.callers.now ≡ length c.args.entries.now = ap length c.requires
    ∙ length-map c.args.entries.now caller_of in
    reads_all c.args.number c.loop-index.index c.loop-index.next c.args.entries.now c.args.notes.now
    (omega (arith, as_many)) c.loop-index.invariant.1 c.loop-index.invariant.0
