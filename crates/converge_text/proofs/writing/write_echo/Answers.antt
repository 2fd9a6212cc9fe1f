use Rattle.std.proofs.Common.{Bool, ℕ, List, [], ◌∷◌, ◌++◌, sym, subst}
use Rattle.watched.specs.Streams.{Writes}
use Rattle.converge_text.specs.Answers.{delivery_text, echoed}
use Rattle.converge_text.proofs.Echoing.{echoed_one, written_more, written_no_more}
use Rattle.converge_text.proofs.writing.write_echo.Goals as goal

pub returns-in-Ok : goal.returns-in-Ok
returns-in-Ok g c = λ old text h.
    let delivery = c.args.delivery.now in
    subst (λ (echo : Bool). Writes old (text ++ echoed echo (delivery ∷ [])) c.write_delivery.result
    c.write_delivery.new.output) (sym c.if-not-echo.false)
    (subst (λ (more : List ℕ). Writes old (text ++ more) c.write_delivery.result c.write_delivery.new.output)
    (sym (echoed_one delivery))
    (written_more old c.args.output.now c.write_delivery.new.output text (delivery_text delivery) c.args.written
    c.write_delivery.result _ c.in-Ok.is h c.write_delivery.ensures))

pub returns-in-Err : goal.returns-in-Err
returns-in-Err g c = λ old text h.
    written_no_more old c.args.output.now text (echoed c.args.echo (c.args.delivery.now ∷ [])) c.args.written
    c.in-Err.failed c.in-Err.is h
