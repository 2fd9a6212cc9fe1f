use Rattle.std.proofs.lemmas.Bool.{false≢true}
use Rattle.command_text.proofs.FirstWords.{first_verb}
use Rattle.command_text.proofs.command.read_command.Goals as goal

pub returns-in_default : goal.returns-in_default
returns-in_default c e h s =
    let verb = first_verb _ _ e s (λ same. false≢true (c.if-is_feed.ensures.1 same)) in
    c.in_default.ensures verb.0 tt verb.1
