-- By the split of a policy's rules its first rule that matches is found: where no number of the split stands in the
-- path, the other rules decide alone.
use Rattle.std.proofs.Common.{◌≡◌, ◌⊎◌, inl, inr, ℕ, zero, suc, ◌+◌, ◌-◌, ◌≤◌, min, Bool, true, false, ◌||◌, not, cond, if◌then◌else◌, nat_eq, nat_lt, is_some, List, [], ◌∷◌, ◌++◌, length, take, unwrap_or, Option, Some, None, refl, sym, ap, subst, ◌∙◌, arith}
use Rattle.std.proofs.lemmas.Bool.{cases_eq, true≢false}
use Rattle.std.proofs.lemmas.List.{length-take}
use Rattle.std.proofs.lemmas.List.Elements.{filter_map-append}
use Rattle.std.specs.List.{list_any, find, filter_map, cons_option, fold, position, position_or_len}
use Rattle.std.specs.Option.{option_to_list}
use Rattle.net_prefix.specs.Prefix.{Prefix}
use Rattle.path_attr.specs.Path.{holds, numbers_of}
use Rattle.path_attr.specs.declared.attr.Attr.{Attr}
use Rattle.path_attr.specs.declared.path.Segment.{Segment}
use Rattle.route_policy.specs.Judging.{matches}
use Rattle.route_policy.specs.PathSplit.{path_number, path_numbers, other_rule, other_rules, split_of, split_with, first_with, first_among, first_held, by_place}
use Rattle.route_policy.proofs.Lists.{cons_option-nil}
use Rattle.route_policy.specs.declared.rule.Match.{Match}
use Rattle.route_policy.specs.declared.rule.Match.TheVariants.{Any, Is, Under, Path, First, Comm}
use Rattle.route_policy.specs.declared.rule.Rule.{Rule}

or_more : (a b : Bool) → b ≡ true → (a || b) ≡ true
or_more true b h = refl
or_more false b h = h

or_second : (a b : Bool) → (a || b) ≡ false → b ≡ false
or_second true b h = absurd (true≢false h)
or_second false b h = h

or_first : (a b : Bool) → (a || b) ≡ false → a ≡ false
or_first true b h = absurd (true≢false h)
or_first false b h = refl

place_or : (b c : Bool) (m n : ℕ) →
    cond (not (b || c)) (1 + min m n) 0 ≡ min (cond (not b) (1 + m) 0) (cond (not c) (1 + n) 0)
place_or true c m n = omega arith
place_or false true m n = omega arith
place_or false false m n = omega arith

-- the first that passes one test or the other
first_or : (p q : ℕ → Bool) (ns : List ℕ) →
    position_or_len (λ n. p n || q n) ns ≡ min (position_or_len p ns) (position_or_len q ns)
first_or p q [] = refl
first_or p q (n ∷ ns) = ap (λ k. cond (not (p n || q n)) (1 + k) 0) (first_or p q ns)
    ∙ place_or (p n) (q n) (position_or_len p ns) (position_or_len q ns)

first_none : (ns : List ℕ) → position_or_len (λ n. false) ns ≡ length ns
first_none [] = refl
first_none (n ∷ ns) = omega (arith, first_none ns)

first_within : (p : ℕ → Bool) (ns : List ℕ) → position_or_len p ns ≤ length ns
first_within p [] = omega arith
first_within p (n ∷ ns) = by (p n) (first_within p ns)
  where
    by : (b : Bool) → position_or_len p ns ≤ length ns → cond (not b) (1 + position_or_len p ns) 0 ≤ suc (length ns)
    by true rest = omega arith
    by false rest = omega (arith, rest)

first_of_taken : (p : ℕ → Bool) (ns : List ℕ) (k : ℕ) → k ≤ length ns →
    position_or_len p (take k ns) ≡ min k (position_or_len p ns)
first_of_taken p [] zero within = omega arith
first_of_taken p [] (suc k) within = omega (arith, within)
first_of_taken p (n ∷ ns) zero within = omega arith
first_of_taken p (n ∷ ns) (suc k) within = by (p n) (first_of_taken p ns k (omega arith))
  where
    by : (b : Bool) → position_or_len p (take k ns) ≡ min k (position_or_len p ns) →
        cond (not b) (1 + position_or_len p (take k ns)) 0 ≡ min (suc k) (cond (not b) (1 + position_or_len p ns) 0)
    by true rest = omega arith
    by false rest = omega (arith, rest)

first_of_none : (p : ℕ → Bool) (ns : List ℕ) → list_any p ns ≡ false → position_or_len p ns ≡ length ns
first_of_none p [] none = refl
first_of_none p (n ∷ ns) none = by (p n) none (first_of_none p ns (or_second _ _ none))
  where
    by : (b : Bool) → (b || list_any p ns) ≡ false → position_or_len p ns ≡ length ns →
        cond (not b) (1 + position_or_len p ns) 0 ≡ suc (length ns)
    by true none rest = absurd (true≢false none)
    by false none rest = omega (arith, rest)

none_taken : (p : ℕ → Bool) (ns : List ℕ) (k : ℕ) → list_any p ns ≡ false → list_any p (take k ns) ≡ false
none_taken p [] zero none = refl
none_taken p [] (suc k) none = refl
none_taken p (n ∷ ns) zero none = refl
none_taken p (n ∷ ns) (suc k) none = λ i. or_first (p n) (list_any p ns) none i
    || none_taken p ns k (or_second (p n) (list_any p ns) none) i

not_found : (m k : ℕ) → unwrap_or (cond (nat_lt m m) (Some m) None) k ≡ k
not_found m k = grind arith

-- no place is given by a number that is not there
pub first_without : (ns : List ℕ) (first n : ℕ) → list_any (nat_eq n) ns ≡ false → first ≡ first_with ns first n
first_without ns first n none =
    let taken = take (min first (length ns)) ns in
    let at : position_or_len (nat_eq n) taken ≡ length taken =
    first_of_none (nat_eq n) taken (none_taken (nat_eq n) ns (min first (length ns)) none) in
    sym (ap (λ k. unwrap_or (cond (nat_lt k (length taken)) (Some k) None) first) at ∙ not_found (length taken) first)

found_or : (m k : ℕ) → m ≤ k → unwrap_or (cond (nat_lt m k) (Some m) None) k ≡ m
found_or m k within = grind (arith, within)

min_within : (m k : ℕ) → m ≤ k → min m k ≡ m
min_within m k within = omega arith

first_with_min : (ns : List ℕ) (first n : ℕ) → first ≤ length ns →
    first_with ns first n ≡ min first (position_or_len (nat_eq n) ns)
first_with_min ns first n within =
    let taken = take first ns in
    let long : length taken ≡ first = omega (arith, length-take first ns) in
    let small : position_or_len (nat_eq n) taken ≤ first = omega (arith, first_within (nat_eq n) taken) in
    ap (λ k. unwrap_or (position (nat_eq n) (take k ns)) first) (min_within first (length ns) within)
    ∙ ap (λ k. unwrap_or (cond (nat_lt (position_or_len (nat_eq n) taken) k)
    (Some (position_or_len (nat_eq n) taken)) None) first) long
    ∙ found_or (position_or_len (nat_eq n) taken) first small
    ∙ first_of_taken (nat_eq n) ns first within

unlike : (n m : ℕ) → (n ≡ m → ⊥) → nat_eq n m ≡ false
unlike n m other = grind (arith, other)

eq_turned : (m n : ℕ) → nat_eq m n ≡ nat_eq n m
eq_turned m n = by (cases_eq m n)
  where
    by : ((m ≡ n) ⊎ (m ≡ n → ⊥)) → nat_eq m n ≡ nat_eq n m
    by (inl same) = λ i. nat_eq (same i) (sym same i)
    by (inr other) = unlike m n other ∙ sym (unlike n m (λ same. other (sym same)))

among_first : (ns ms : List ℕ) (first : ℕ) → first ≤ length ns →
    first_among ns first ms ≡ min first (position_or_len (λ n. list_any (nat_eq n) ms) ns)
among_first ns [] first within = omega (arith, first_none ns)
among_first ns (m ∷ ms) first within =
    let here : first_with ns first m ≡ min first (position_or_len (nat_eq m) ns) = first_with_min ns first m within in
    let turned : position_or_len (λ n. nat_eq n m) ns ≡ position_or_len (nat_eq m) ns =
    ap (λ (p : ℕ → Bool). position_or_len p ns) (λ i n. eq_turned n m i) in
    let either : position_or_len (λ n. nat_eq n m || list_any (nat_eq n) ms) ns
    ≡ min (position_or_len (λ n. nat_eq n m) ns) (position_or_len (λ n. list_any (nat_eq n) ms) ns) =
    first_or (λ n. nat_eq n m) (λ n. list_any (nat_eq n) ms) ns in
    let after : first_among ns (first_with ns first m) ms
    ≡ min (first_with ns first m) (position_or_len (λ n. list_any (nat_eq n) ms) ns) =
    among_first ns ms (first_with ns first m) (omega arith) in
    after ∙ omega (arith, here, turned, either)

held_from : (ns : List ℕ) (path : List Segment) (first : ℕ) → first ≤ length ns →
    fold (λ first s. first_among ns first (numbers_of s)) first path
    ≡ min first (position_or_len (λ n. holds n path) ns)
held_from ns [] first within = omega (arith, first_none ns)
held_from ns (s ∷ ss) first within =
    let ms = numbers_of s in
    let here : first_among ns first ms ≡ min first (position_or_len (λ n. list_any (nat_eq n) ms) ns) =
    among_first ns ms first within in
    let either : position_or_len (λ n. list_any (nat_eq n) ms || holds n ss) ns
    ≡ min (position_or_len (λ n. list_any (nat_eq n) ms) ns) (position_or_len (λ n. holds n ss) ns) =
    first_or (λ n. list_any (nat_eq n) ms) (λ n. holds n ss) ns in
    let after : fold (λ first s. first_among ns first (numbers_of s)) (first_among ns first ms) ss
    ≡ min (first_among ns first ms) (position_or_len (λ n. holds n ss) ns) =
    held_from ns ss (first_among ns first ms) (omega arith) in
    after ∙ omega (arith, here, either)

-- the place that is found is that of the first number that stands in the path
pub held_first : (ns : List ℕ) (path : List Segment) → first_held ns path ≡ position_or_len (λ n. holds n path) ns
held_first ns path = held_from ns path (length ns) (omega arith) ∙ omega (arith, first_within (λ n. holds n path) ns)

none_first : (p : ℕ → Bool) (ns : List ℕ) → position_or_len p ns ≡ length ns → list_any p ns ≡ false
none_first p [] end = refl
none_first p (n ∷ ns) end = by (p n) end (none_first p ns)
  where
    by : (b : Bool) → cond (not b) (1 + position_or_len p ns) 0 ≡ suc (length ns) →
        (position_or_len p ns ≡ length ns → list_any p ns ≡ false) → (b || list_any p ns) ≡ false
    by true at rest = absurd (omega (arith, at))
    by false at rest = rest (omega (arith, at))

none_among : (p : ℕ → Bool) (ns : List ℕ) (n : ℕ) → list_any p ns ≡ false → list_any (nat_eq n) ns ≡ true → p n ≡ false
none_among p [] n none among = absurd (true≢false (sym among))
none_among p (k ∷ ns) n none among = by (cases_eq n k) (none_among p ns n (or_second _ _ none))
  where
    by : ((n ≡ k) ⊎ (n ≡ k → ⊥)) → (list_any (nat_eq n) ns ≡ true → p n ≡ false) → p n ≡ false
    by (inl same) rest = ap p same ∙ or_first _ _ none
    by (inr other) rest = rest (grind (arith, among, other))

among_more : (o : Option ℕ) (ns : List ℕ) (n : ℕ) → list_any (nat_eq n) ns ≡ true →
    list_any (nat_eq n) (cons_option o ns) ≡ true
among_more None ns n among = among
among_more (Some m) ns n among = or_more _ _ among

module _ (p : Prefix) (a : Attr) where
  met : Rule → Bool
  met r = matches r.cond p a

  -- the first rule is passed over where it is by path
  one : (r : Rule) (rs : List Rule) (m : Match) → r.cond ≡ m → find (λ r. matches r.cond p a) (other_rules rs)
      ≡ find (λ r. matches r.cond p a) rs →
      ((n : ℕ) → list_any (nat_eq n) (cons_option (path_number m) (path_numbers rs)) ≡ true → holds n a.path ≡ false) →
      find (λ r. matches r.cond p a) (cons_option (cond (is_some (path_number m)) None (Some r)) (other_rules rs))
      ≡ cond (matches m p a) (Some r) (find (λ r. matches r.cond p a) rs)
  one r rs (Path n) is rest unheld =
      rest ∙ sym (ap (λ b. cond b (Some r) (find (λ r. matches r.cond p a) rs)) (unheld n (or_same n)))
    where
      or_same : (n : ℕ) → (nat_eq n n || list_any (nat_eq n) (path_numbers rs)) ≡ true
      or_same n = grind arith
  one r rs Any is rest unheld = λ i. cond (matches (is i) p a) (Some r) (rest i)
  one r rs (Is q) is rest unheld = λ i. cond (matches (is i) p a) (Some r) (rest i)
  one r rs (Under q) is rest unheld = λ i. cond (matches (is i) p a) (Some r) (rest i)
  one r rs (First n) is rest unheld = λ i. cond (matches (is i) p a) (Some r) (rest i)
  one r rs (Comm n) is rest unheld = λ i. cond (matches (is i) p a) (Some r) (rest i)

  passed : (rs : List Rule) → ((n : ℕ) → list_any (nat_eq n) (path_numbers rs) ≡ true → holds n a.path ≡ false) →
      find (λ r. matches r.cond p a) (other_rules rs) ≡ find (λ r. matches r.cond p a) rs
  passed [] none = refl
  passed (r ∷ rs) none = one r rs r.cond refl
      (passed rs (λ n among. none n (among_more (path_number r.cond) (path_numbers rs) n among))) none

-- the first rule that matches, where the path holds none of the numbers
pub passed_by : (p : Prefix) (a : Attr) (rs : List Rule) →
    first_held (path_numbers rs) a.path ≡ length (path_numbers rs) →
    find (λ r. matches r.cond p a) (other_rules rs) ≡ find (λ r. matches r.cond p a) rs
passed_by p a rs end =
    let none = none_first (λ n. holds n a.path) (path_numbers rs) (sym (held_first (path_numbers rs) a.path) ∙ end) in
    passed p a rs (λ n among. none_among (λ n. holds n a.path) (path_numbers rs) n none among)

one_less : (k : ℕ) → (1 + k) - 1 ≡ k
one_less k = omega arith

not_zero : (k : ℕ) → 1 + k ≡ 0 → ⊥
not_zero k none = omega (arith, none)

next_one : (k : ℕ) (r : Rule) (later : ℕ → Option Rule) →
    (if nat_eq (1 + k) 0 then Some r else later ((1 + k) - 1)) ≡ later k
next_one k r later = ap (λ b. if b then Some r else later ((1 + k) - 1)) (unlike (1 + k) 0 (not_zero k))
    ∙ ap later (one_less k)

-- the first rule that matches, by the place of the first number that the path holds
placed : (p : Prefix) (a : Attr) (rs : List Rule) (left : ℕ) →
    left ≡ position_or_len (λ n. holds n a.path) (path_numbers rs) →
    by_place p a left rs ≡ find (λ r. matches r.cond p a) rs
placed p a [] left at = refl
placed p a (r ∷ rs) left at = by r.cond refl at (placed p a rs)
  where
    hit : (b : Bool) → left ≡ cond (not b) (1 + position_or_len (λ n. holds n a.path) (path_numbers rs)) 0 →
        ((k : ℕ) → k ≡ position_or_len (λ n. holds n a.path) (path_numbers rs) →
        by_place p a k rs ≡ find (λ r. matches r.cond p a) rs) →
        (if nat_eq left 0 then Some r else by_place p a (left - 1) rs)
        ≡ cond b (Some r) (find (λ r. matches r.cond p a) rs)
    hit true at rest = ap (λ k. if nat_eq k 0 then Some r else by_place p a (k - 1) rs) at
    hit false at rest = ap (λ k. if nat_eq k 0 then Some r else by_place p a (k - 1) rs) at
        ∙ next_one (position_or_len (λ n. holds n a.path) (path_numbers rs)) r (λ k. by_place p a k rs)
        ∙ rest (position_or_len (λ n. holds n a.path) (path_numbers rs)) refl

    by : (m : Match) → r.cond ≡ m →
        left ≡ position_or_len (λ n. holds n a.path) (cons_option (path_number m) (path_numbers rs)) →
        ((k : ℕ) → k ≡ position_or_len (λ n. holds n a.path) (path_numbers rs) →
        by_place p a k rs ≡ find (λ r. matches r.cond p a) rs) →
        (if is_some (path_number m) then (if nat_eq left 0 then Some r else by_place p a (left - 1) rs)
        else if matches m p a then Some r
        else by_place p a left rs)
        ≡ cond (matches m p a) (Some r) (find (λ r. matches r.cond p a) rs)
    by (Path n) is at rest = hit (holds n a.path) at rest
    by Any is at rest = refl
    by (Is q) is at rest = ap (λ o. cond (matches (Is q) p a) (Some r) o) (rest left at)
    by (Under q) is at rest = ap (λ o. cond (matches (Under q) p a) (Some r) o) (rest left at)
    by (First n) is at rest = ap (λ o. cond (matches (First n) p a) (Some r) o) (rest left at)
    by (Comm n) is at rest = ap (λ o. cond (matches (Comm n) p a) (Some r) o) (rest left at)

pub found_by_place : (p : Prefix) (a : Attr) (rs : List Rule) → by_place p a (first_held (path_numbers rs) a.path) rs
    ≡ find (λ r. matches r.cond p a) rs
found_by_place p a rs = placed p a rs (first_held (path_numbers rs) a.path) (held_first (path_numbers rs) a.path)

-- what is split of the rules with one more at the end
numbers_with : (rs : List Rule) (r : Rule) → path_numbers (rs ++ r ∷ []) ≡ path_numbers rs
    ++ option_to_list (path_number r.cond)
numbers_with rs r = filter_map-append (λ r. path_number r.cond) rs (r ∷ [])
    ∙ ap (λ ns. path_numbers rs ++ ns) (cons_option-nil (path_number r.cond))

others_with : (rs : List Rule) (r : Rule) → other_rules (rs ++ r ∷ []) ≡ other_rules rs ++ option_to_list (other_rule r)
others_with rs r = filter_map-append other_rule rs (r ∷ [])
    ∙ ap (λ os. other_rules rs ++ os) (cons_option-nil (other_rule r))

pub split_longer : (rs : List Rule) (r : Rule) → split_with (split_of rs) r ≡ split_of (rs ++ r ∷ [])
split_longer rs r = λ i. record { numbers = sym (numbers_with rs r) i; others = sym (others_with rs r) i }
