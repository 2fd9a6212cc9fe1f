use Rattle.std.proofs.Common.{◌≡◌, ◌+◌, ◌-◌, ◌∷◌, length, take, drop, sym, ap, ◌∙◌, arith}
use Rattle.std.specs.Str.Lines.{lines}
use Rattle.std.proofs.lemmas.List.{take_all, length-drop}
use Rattle.script_files.proofs.ScriptLines.{lines_first}
use Rattle.script_files.proofs.lines.next_line.Goals as goal

pub returns-in-Some-clause-next : goal.returns-in-Some-clause-next
returns-in-Some-clause-next c =
    let bytes = c.args.bytes.now in
    let after = c.in-Some.end + 1 in
    let line = c.without_carriage_return.result.now in
    let rest : take (length bytes - after) (drop after bytes) ≡ drop after bytes =
    take_all (length bytes - after) (drop after bytes) (omega (arith, length-drop after bytes)) in
    lines_first bytes c.in-Some.end (sym c.line_feed_in.ensures ∙ c.in-Some.is)
    ∙ ap (λ l. l ∷ lines (drop after bytes)) (sym c.without_carriage_return.ensures)
    ∙ ap (λ r. line ∷ lines r) (sym rest)
