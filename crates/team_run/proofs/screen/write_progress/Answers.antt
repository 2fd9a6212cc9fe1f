use Rattle.std.proofs.Common.{◌≡◌, ◌∙◌, ◌++◌, sym, subst, List, ℕ, codes, append_assoc}
use Rattle.std.specs.Fmt.{decimal}
use Rattle.watched.specs.Streams.{Writes}
use Rattle.team_run.specs.Screen.{line_start}
use Rattle.team_run.proofs.screen.write_progress.Goals as goal

-- however the pieces are put together
grouped : (a b c d e : List ℕ) → a ++ (b ++ (c ++ (d ++ e))) ≡ ((((a ++ b) ++ c) ++ d) ++ e)
grouped a b c d e = sym (append_assoc a b (c ++ (d ++ e)))
    ∙ (sym (append_assoc (a ++ b) c (d ++ e)) ∙ sym (append_assoc ((a ++ b) ++ c) d e))

pub returns : goal.returns
returns g c = subst (λ text. Writes c.args.output.now text c.write_each.result c.write_each.new.output)
    (grouped line_start (decimal c.args.progress.calls) (codes " calls, ") (decimal c.args.progress.waiting)
    (codes " messages wait")) c.write_each.ensures
