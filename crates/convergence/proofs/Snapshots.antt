-- A snapshot that is taken back.
use Rattle.std.proofs.Common.{◌≡◌, ℕ, ◌≤◌, List, [], ◌∷◌, ◌++◌, length, take, drop, sym, ap, ◌∙◌, arith, append_assoc}
use Rattle.std.proofs.lemmas.List.{length_push, length-take-le, take-append-drop}
use Rattle.reference_machine.specs.Network.{Network}
use Rattle.convergence.specs.Kept.{Kept, IsRestored}

-- the last of the first n
pub restored : (n : ℕ) (s : Kept) (first before : List Network) (x : Network) → first ≡ take n s.snapshots →
    first ≡ before ++ x ∷ [] → n ≤ length s.snapshots → IsRestored n s (record { network = x; snapshots = before })
restored n s first before x is last few =
    let same : take n s.snapshots ≡ before ++ x ∷ [] = sym is ∙ last in
    record {
      later = drop n s.snapshots;
      snapshots = sym (take-append-drop n s.snapshots) ∙ ap (λ xs. xs ++ drop n s.snapshots) same
          ∙ append_assoc before (x ∷ []) (drop n s.snapshots);
      number = omega (arith, length-take-le n s.snapshots few, ap length same, length_push before x);
    }
