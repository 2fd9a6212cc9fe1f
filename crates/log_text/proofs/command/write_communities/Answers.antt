use Rattle.std.proofs.Common.{◌≡◌, ℕ, ◌<◌, List, [], ◌∷◌, ◌++◌, length, codes, append-nil, arith}
use Rattle.std.proofs.lemmas.Bool.Decides.{nat_tests}
use Rattle.sim_event.specs.Wording.{numbers_text}
use Rattle.command_text.specs.Words.{communities_words}
use Rattle.reply_text.specs.Pieces.{writes_same, writes_cut, writes_next}
use Rattle.log_text.specs.Rules.{spaced}
use Rattle.log_text.proofs.command.write_communities.Goals as goal

-- where there are some, they stand after their name
named_numbers : (cs : List ℕ) → 0 < length cs → spaced (communities_words cs) ≡ codes " comm=" ++ numbers_text cs
named_numbers [] some = absurd (omega (arith, some))
named_numbers (c ∷ cs) some = append-nil (codes " comm=" ++ numbers_text (c ∷ cs))

pub returns-in_err-write : goal.returns-in_err-write
returns-in_err-write g c =
    let cs = c.args.communities.now in
    let some : 0 < length cs = grind (arith, nat_tests) in
    let r = c.from_residual.result in
    writes_same c.args.output.now c.write.new.self _ _ r (named_numbers cs some)
    (writes_cut c.args.output.now c.write.new.self (codes " comm=") (numbers_text cs) r c.from_residual.ensures.0
    c.in_err-write.ensures)

pub returns : goal.returns
returns g c =
    let cs = c.args.communities.now in
    let some : 0 < length cs = grind (arith, nat_tests) in
    let r = c.write_joined.result in
    writes_same c.args.output.now c.write_joined.new.output _ _ r (named_numbers cs some)
    (writes_next c.args.output.now c.write.new.self c.write_joined.new.output (codes " comm=")
    (numbers_text cs) r c.in_ok-write.ensures c.write_joined.ensures)
