use Rattle.std.proofs.Common.{◌≡◌, ◌≤◌, ◌∷◌, ◌++◌, length}
use Rattle.net_prefix.specs.Prefix.{prefix_text}
use Rattle.command_text.specs.Lines.{tokens}
use Rattle.command_text.proofs.Fronts.{prefix_first, prefix_shorter, told_of}
use Rattle.command_text.proofs.arguments.next_prefix.Goals as goal

pub returns-then-is_some-clause-found : goal.returns-then-is_some-clause-found
returns-then-is_some-clause-found c =
    told_of c.front_prefix-found.result (λ next. c.args.words.now ≡ prefix_text next.0 ++ (32 ∷ next.1.now))
    (λ next. tokens c.args.words.now ≡ prefix_text next.0 ∷ tokens next.1.now)
    (λ next h. prefix_first c.args.words.now next.1.now next.0 h) c.front_prefix-found.ensures.found

pub returns-then-is_some-clause-shorter : goal.returns-then-is_some-clause-shorter
returns-then-is_some-clause-shorter c =
    told_of c.front_prefix-found.result (λ next. c.args.words.now ≡ prefix_text next.0 ++ (32 ∷ next.1.now))
    (λ next. length next.1.now ≤ length c.args.words.now)
    (λ next h. prefix_shorter c.args.words.now next.1.now next.0 h) c.front_prefix-found.ensures.found
