-- A list that was pushed to, where there was memory.
use Rattle.std.proofs.Common.{◌≡◌, ◌≤◌, ◌∙◌, sym, subst, Bool, true, false, List, [], ◌∷◌, ◌++◌, length, append-nil, All, arith}
use Rattle.std.specs.Prelude.{if◌then◌else◌}
use Rattle.std.proofs.lemmas.List.Elements.{All-nil, All-cons, All-push}

pub all_pushed : {X : Type 0} (P : X → Type 0) (is : Bool) (xs ys : List X) (x : X) →
    ys ≡ (if is then xs ++ x ∷ [] else xs) → All P xs → P x → All P ys
all_pushed P true xs ys x e all one = subst (All P) (sym e) (All-push P xs x all one)
all_pushed P false xs ys x e all one = subst (All P) (sym e) all

-- there is one more at most
pub one_more : {X : Type 0} (P : X → Type 0) (is : Bool) (xs ys : List X) (x : X) →
    ys ≡ (if is then xs ++ x ∷ [] else xs) → P x
    → (more : List X) × (ys ≡ xs ++ more) × (length more ≤ 1) × All P more
one_more P true xs ys x e one = (x ∷ [], e, omega arith, All-cons P x [] one (All-nil P))
one_more P false xs ys x e one = ([], e ∙ sym (append-nil xs), omega arith, All-nil P)
