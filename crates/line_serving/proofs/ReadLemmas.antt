-- What is left to read, where it is known.
use Rattle.std.proofs.Common.{◌≡◌, ℕ, List, Option, Some, None, IfSome, refl}

pub if_known : (o : Option (List ℕ)) (P : List ℕ → Type 0) → ((x : List ℕ) → o ≡ Some x → P x) → IfSome o P
if_known None P h = tt
if_known (Some x) P h = h x refl
