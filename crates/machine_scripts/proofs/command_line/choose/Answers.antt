use Rattle.std.proofs.Common.{arith, map, string_bytes, ◌≡◌, ◌∙◌, sym, ℕ, List, length, codes, subst}
use Rattle.std.proofs.lemmas.Slice.Eq.{bytes_eq-Decides}
use Rattle.machine_scripts.specs.CommandLine.{Names}
use Rattle.machine_scripts.proofs.Choices.{three_of, before_script}
use Rattle.machine_scripts.proofs.command_line.choose.Goals as goal

pub returns-in-len3 : goal.returns-in-len3
returns-in-len3 c =
    let words = c.args.words.now in
    let name = c.kind-item-then-words-lt4 in
    let last = c.last-item in
    let three : length words ≡ 3 = omega arith in
    let parts = three_of string_bytes words name.result last.result three name.is last.is in
    let ends : string_bytes last.result ≡ codes "script" =
    sym c.as_str.ensures.value
    ∙ (bytes_eq-Decides c.as_str.result.now (codes "script")).0 (sym c.eq.ensures ∙ c.if-eq.true) in
    before_script (map string_bytes words) parts.0 (string_bytes name.result)
    (string_bytes last.result) c.kind_named-in-len3.result parts.1 ends
    (subst (λ (word : List ℕ). Names word c.kind_named-in-len3.result) c.as_bytes-in-len3.ensures.value
    c.kind_named-in-len3.ensures)
