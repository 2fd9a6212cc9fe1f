use Rattle.std.proofs.Common.{◌++◌, ◌∷◌, []}
use Rattle.sim_event.specs.Wording.{numbers_text}
use Rattle.reply_text.specs.Pieces.{writes_cut, writes_next}
use Rattle.reply_text.proofs.path.write_set.Goals as goal

pub returns-in_err-write : goal.returns-in_err-write
returns-in_err-write g c =
    writes_cut c.args.output.now c.write.new.self (123 ∷ []) (numbers_text c.args.numbers.now ++ (125 ∷ []))
    c.from_residual.result c.from_residual.ensures.0 c.in_err-write.ensures

pub returns-in_err-write_joined : goal.returns-in_err-write_joined
returns-in_err-write_joined g c =
    writes_next c.args.output.now c.write.new.self c.write_joined.new.output (123 ∷ []) (numbers_text c.args.numbers.now
    ++ (125 ∷ [])) c.from_residual-in_err-write_joined.result c.in_ok-write.ensures
    (writes_cut c.write.new.self c.write_joined.new.output (numbers_text c.args.numbers.now)
    (125 ∷ []) c.from_residual-in_err-write_joined.result c.from_residual-in_err-write_joined.ensures.0
    c.in_err-write_joined.ensures)

pub returns : goal.returns
returns g c =
    writes_next c.args.output.now c.write.new.self c.write-2.new.self (123 ∷ []) (numbers_text c.args.numbers.now
    ++ (125 ∷ [])) c.write-2.result c.in_ok-write.ensures
    (writes_next c.write.new.self c.write_joined.new.output c.write-2.new.self (numbers_text c.args.numbers.now)
    (125 ∷ []) c.write-2.result c.in_ok-write_joined.ensures c.write-2.ensures)
