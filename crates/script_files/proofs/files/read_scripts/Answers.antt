use Rattle.std.proofs.Common.{◌≡◌, ◌∷◌, ◌++◌, ◌+◌, ◌<◌, [], length, take, rules, sym, ap, ◌∙◌, subst, arith}
use Rattle.std.proofs.lemmas.List.{length_push, length-set}
use Rattle.std.proofs.lemmas.Result.{err_from_is_err_and}
use Rattle.script_files.specs.Sources.{AreRead}
use Rattle.script_files.proofs.ReadFiles.{read_here, unread_here}
use Rattle.script_files.proofs.files.read_scripts.Goals as goal

pub loop-place-preserved : goal.loop-place-preserved
loop-place-preserved g c =
    let files = c.args.files.now in
    let left = c.loop-place.files in
    let place = c.loop-place.place in
    let scripts = c.loop-place.scripts.items in
    let script = c.in_ok-script.script in
    let so = c.loop-place.invariant in
    let low : place < length files = omega (arith, so.1, c.loop-place-test.true, c.loop-place.auto.files) in
    let pushed : c.push.new.self.items ≡ scripts ++ script ∷ [] = search rules in
    let read = read_here files left place _ low so.1 so.2 c.read_script.new.file scripts script so.3
    c.in_ok-script.ensures.script in (
      omega (arith, ap length pushed, length_push scripts script, so.0),
      length-set left place c.read_script.new.file ∙ so.1,
      read.0,
      subst (AreRead (take (place + 1) files)) (sym pushed) read.1,
    )

pub returns-in_err-script-clause-fault : goal.returns-in_err-script-clause-fault
returns-in_err-script-clause-fault g c =
    let files = c.args.files.now in
    let left = c.loop-place.files in
    let place = c.loop-place.place in
    let so = c.loop-place.invariant in
    let low : place < length files = omega (arith, so.1, c.loop-place-test.true, c.loop-place.auto.files) in
    let p = err_from_is_err_and c.from_residual.result c.from_residual.ensures.1 in
    rw (p.1, p.2) (unread_here files left place _ low so.1 so.2 c.read_script.new.file c.loop-place.scripts.items _ so.3
    c.in_err-script.ensures.fault)
