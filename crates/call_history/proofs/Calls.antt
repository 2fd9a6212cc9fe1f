-- The calls of one seat, one entry at a time.
use Rattle.std.proofs.lemmas.Bool.Decides.{nat_tests}
use Rattle.std.proofs.lemmas.List.{drop_all}
use Rattle.std.proofs.Common.{IsTrue, length-drop, ◌≡◌, ℕ, ◌≤◌, List, [], length, drop, sym, ap, ◌∙◌, arith}
use Rattle.std.specs.Prelude.{◌↔◌, nat_eq}
use Rattle.sim_event.specs.declared.entry.Entry.{Entry}
use Rattle.sim_event.specs.declared.entry.Call.{Call}
use Rattle.reference_machine.specs.Histories.{calls_of}

-- all entries were read
pub reads_all : (n i next : ℕ) (es : List Entry) (notes : List Call) → length es ≤ i → next ≤ length notes
    → ((calls_of n es ≡ notes) ↔ (calls_of n (drop i es) ≡ drop next notes))
    → IsTrue (nat_eq next (length notes)) ↔ (calls_of n es ≡ notes)
reads_all n i next es notes end below both =
    let rest : calls_of n (drop i es) ≡ [] = ap (calls_of n) (drop_all i es end) in (
      (λ is. both.1 (rest ∙ sym (drop_all next notes (let e : next ≡ length notes = grind (arith, nat_tests) in
          omega arith)))),
      (λ is. let d : drop next notes ≡ [] = sym (both.0 is) ∙ rest in let e : next ≡ length notes =
          omega (arith, ap length d, length-drop next notes) in grind (arith, nat_tests)),
    )
