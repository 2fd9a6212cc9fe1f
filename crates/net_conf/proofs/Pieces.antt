-- A list in two pieces.
use Rattle.std.proofs.Common.{◌≡◌, ℕ, List, ◌++◌, map, take, drop, ap, sym, ◌∙◌, Ok, IfOk}
use Rattle.std.specs.Prelude.{Result}
use Rattle.std.specs.declared.vec.Vec.{Vec}
use Rattle.std.proofs.lemmas.List.{map-append, take-append-drop}

-- what is made of each piece, one after the other, is what is made of the whole
pub made_in_pieces : {X Y A E : Type 0} (make : X → Y) (n : ℕ) (xs front back : List X)
    (made rest : Result (Vec Y A) E) (v w : Vec Y A)
    → made ≡ Ok v → rest ≡ Ok w → front ≡ take n xs → back ≡ drop n xs
    → IfOk made (λ m. m.items ≡ map make front) → IfOk rest (λ m. m.items ≡ map make back)
    → v.items ++ w.items ≡ map make xs
made_in_pieces make n xs front back made rest v w is_v is_w is_front is_back first second =
    let one : v.items ≡ map make (take n xs) = (rw is_v at first) ∙ ap (map make) is_front in
    let two : w.items ≡ map make (drop n xs) = (rw is_w at second) ∙ ap (map make) is_back in
    rw (one, two) (sym (map-append make (take n xs) (drop n xs)) ∙ ap (map make) (take-append-drop n xs))
