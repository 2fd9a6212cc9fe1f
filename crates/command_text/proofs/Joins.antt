-- A text that is cut at its first separator: the parts are joined values exactly where the text is.
use Rattle.std.proofs.Common.{◌≡◌, ℕ, List, [], ◌∷◌, ◌++◌, map, refl, sym, subst, ◌∙◌, append_assoc, arith}
use Rattle.std.specs.List.{join_with_byte}
use Rattle.decimal.specs.Separators.{Lacks, cut_exact, not_lacks}
use Rattle.command_text.specs.Joined.{Joins, HasJoined, HasOne}

module _ {X : Type 0} (byte : ℕ) (IsIn : X → Type 0) (spelling : X → List ℕ) (lacks : (x : X) → IsIn x →
    Lacks byte (spelling x)) where
  -- the first value and the others
  pub joins_first : (xs : List X) (first after : List ℕ) → Lacks byte first →
      Joins byte IsIn spelling xs (first ++ (byte ∷ after)) →
      (x : X) × (more : List X) × (xs ≡ x ∷ more) × IsIn x × (first ≡ spelling x) × Joins byte IsIn spelling more after
  joins_first [] first after h j = absurd (omega (arith, j.0))
  joins_first (x ∷ []) first after h j =
      absurd (not_lacks byte first after (subst (Lacks byte) (sym j.2) (lacks x j.1.0)))
  joins_first (x ∷ y ∷ ys) first after h j =
      let parts = cut_exact byte first (spelling x) after (join_with_byte byte (map spelling (y ∷ ys))) h
      (lacks x j.1.0) j.2 in
      (x, y ∷ ys, refl, j.1.0, parts.0, (omega arith, j.1.1, parts.1))

  -- a text with no separator is one value
  pub joins_last : (xs : List X) (text : List ℕ) → Lacks byte text → Joins byte IsIn spelling xs text → (x : X)
      × (xs ≡ x ∷ []) × IsIn x × (text ≡ spelling x)
  joins_last [] text h j = absurd (omega (arith, j.0))
  joins_last (x ∷ []) text h j = (x, refl, j.1.0, j.2)
  joins_last (x ∷ y ∷ ys) text h j =
      absurd (not_lacks byte (spelling x) (join_with_byte byte (map spelling (y ∷ ys))) (subst (Lacks byte) j.2 h))

  pub joins_one : (x : X) (text : List ℕ) → IsIn x → text ≡ spelling x → Joins byte IsIn spelling (x ∷ []) text
  joins_one x text h e = (omega arith, (h, tt), e)

  pub joins_more : (x : X) (xs : List X) (first after : List ℕ) → IsIn x → first ≡ spelling x →
      Joins byte IsIn spelling xs after → Joins byte IsIn spelling (x ∷ xs) (first ++ (byte ∷ after))
  joins_more x [] first after h e j = absurd (omega (arith, j.0))
  joins_more x (y ∷ ys) first after h e j = (omega arith, (h, j.1), (λ i. e i ++ (byte ∷ j.2 i)))

  -- one text is joined of one list of values, where each value has its own text
  pub joins_same : ((x y : X) → IsIn x → IsIn y → spelling x ≡ spelling y → x ≡ y) → (xs ys : List X) (text : List ℕ) →
      Joins byte IsIn spelling xs text → Joins byte IsIn spelling ys text → xs ≡ ys
  joins_same exact [] ys text j k = absurd (omega (arith, j.0))
  joins_same exact (x ∷ []) ys text j k =
      let only = joins_last ys text (subst (Lacks byte) (sym j.2) (lacks x j.1.0)) k in
      let same : x ≡ only.0 = exact x only.0 j.1.0 only.2 (sym j.2 ∙ only.3) in
      (λ i. same i ∷ []) ∙ sym only.1
  joins_same exact (x ∷ z ∷ zs) ys text j k =
      let rest = join_with_byte byte (map spelling (z ∷ zs)) in
      let next = joins_first ys (spelling x) rest (lacks x j.1.0) (subst (Joins byte IsIn spelling ys) j.2 k) in
      let same : x ≡ next.0 = exact x next.0 j.1.0 next.3 next.4 in
      let others : z ∷ zs ≡ next.1 = joins_same exact (z ∷ zs) next.1 rest (omega arith, j.1.1, refl) next.5 in
      (λ i. same i ∷ others i) ∙ sym next.2

  -- a cut text is joined values exactly where both parts are
  pub has_first : (text first after : List ℕ) → text ≡ first ++ (byte ∷ after) → Lacks byte first →
      HasJoined byte IsIn spelling text → HasOne IsIn spelling first
  has_first text first after e h has =
      let next = joins_first has.0 first after h (subst (Joins byte IsIn spelling has.0) e has.1) in
      (next.0, next.3, next.4)

  pub has_after : (text first after : List ℕ) → text ≡ first ++ (byte ∷ after) → Lacks byte first →
      HasJoined byte IsIn spelling text → HasJoined byte IsIn spelling after
  has_after text first after e h has =
      let next = joins_first has.0 first after h (subst (Joins byte IsIn spelling has.0) e has.1) in
      (next.1, next.5)

  pub has_more : (text first after : List ℕ) → text ≡ first ++ (byte ∷ after) → HasOne IsIn spelling first →
      HasJoined byte IsIn spelling after → HasJoined byte IsIn spelling text
  has_more text first after e one has = (
    one.0 ∷ has.0,
    subst (Joins byte IsIn spelling (one.0 ∷ has.0)) (sym e)
        (joins_more one.0 has.0 first after one.1 one.2 has.1),
  )

  pub has_last : (text : List ℕ) → Lacks byte text → HasJoined byte IsIn spelling text → HasOne IsIn spelling text
  has_last text h has = let only = joins_last has.0 text h has.1 in (only.0, only.2, only.3)

  pub has_one : (text : List ℕ) → HasOne IsIn spelling text → HasJoined byte IsIn spelling text
  has_one text one = (one.0 ∷ [], joins_one one.0 text one.1 one.2)

-- The values so far, and whatever the rest is joined of, make the text.
abbrev pub GoesOn : {X : Type 0} → ℕ → (X → Type 0) → (X → List ℕ) → List X → List ℕ → List ℕ → Type 0
GoesOn {X} byte IsIn spelling xs rest text = (more : List X) → Joins byte IsIn spelling more rest →
    Joins byte IsIn spelling (xs ++ more) text

module _ {X : Type 0} (byte : ℕ) (IsIn : X → Type 0) (spelling : X → List ℕ) (lacks : (x : X) → IsIn x →
    Lacks byte (spelling x)) where
  pub goes_more : (xs : List X) (x : X) (rest first after text : List ℕ) → rest ≡ first ++ (byte ∷ after) → IsIn x →
      first ≡ spelling x → GoesOn byte IsIn spelling xs rest text →
      GoesOn byte IsIn spelling (xs ++ (x ∷ [])) after text
  goes_more xs x rest first after text e h s on more j =
      let step = joins_more byte IsIn spelling lacks x more first after h s j in
      rw append_assoc (on (x ∷ more) (subst (Joins byte IsIn spelling (x ∷ more)) (sym e) step))

  pub goes_last : (xs : List X) (x : X) (rest text : List ℕ) → IsIn x → rest ≡ spelling x →
      GoesOn byte IsIn spelling xs rest text → Joins byte IsIn spelling (xs ++ (x ∷ [])) text
  goes_last xs x rest text h s on = on (x ∷ []) (joins_one byte IsIn spelling lacks x rest h s)
