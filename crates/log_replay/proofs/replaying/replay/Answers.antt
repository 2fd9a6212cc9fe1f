use Rattle.std.proofs.lemmas.Option.{IfSome_then}
use Rattle.log_replay.proofs.Exact.{sound, fair}
use Rattle.log_replay.proofs.replaying.replay.Goals as goal

pub returns-clause-sound : goal.returns-clause-sound
returns-clause-sound g c =
    IfSome_then c.args.input.now.remaining c.read_through-result.ensures.replayed
    (λ bytes replayed. sound bytes c.read_through-result.result c.read_through-result.new.input replayed)

pub returns-clause-complete : goal.returns-clause-complete
returns-clause-complete g c =
    IfSome_then c.args.input.now.remaining c.read_through-result.ensures.replayed
    (λ bytes replayed. fair c.one_meaning.ensures.line c.replies_are_lines.ensures bytes c.read_through-result.result
    c.read_through-result.new.input replayed)
