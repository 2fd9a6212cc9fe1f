-- No public contract cites this file.
-- Laws of writing piece by piece.
use Rattle.std.specs.Prelude.{◌≡◌, ℕ, ◌+◌, ◌≤◌, Bool, true, false, not, ◌==◌, ◌||◌, List, [], ◌∷◌, ◌++◌, length, take, min, Option, Some, None, Result, Ok, Err, refl}
use Rattle.std.proofs.Common.{sym, ap, ◌∙◌, subst, append_assoc, append-nil, arith}
use Rattle.std.proofs.Math.Seq.{take-append-add}
use Rattle.std.proofs.lemmas.Bool.{ne_eqb}
use Rattle.std.proofs.lemmas.List.{take_min, take-append-le}
use Rattle.std.specs.Io.KnownBytes.{Appends}
use Rattle.watched.specs.Streams.{Writing, AppendsFront, Writes}

-- a, and then b
pub appends_both : (old mid new : Option (List ℕ)) (a b : List ℕ) → Appends old mid a → Appends mid new b →
    Appends old new (a ++ b)
appends_both None mid new a b h g = tt
appends_both (Some xs) None new a b h g = absurd h
appends_both (Some xs) (Some ys) None a b h g = absurd g
appends_both (Some xs) (Some ys) (Some zs) a b h g = g ∙ ap (λ ws. ws ++ b) h ∙ append_assoc xs a b

pub appends_none : (old : Option (List ℕ)) → Appends old old []
appends_none None = tt
appends_none (Some xs) = sym (append-nil xs)

-- a, and then a front of b
pub appends_front : (old mid new : Option (List ℕ)) (a b : List ℕ) → Appends old mid a → AppendsFront mid new b →
    AppendsFront old new (a ++ b)
appends_front old mid new a b h (n, g) =
    (length a + n, subst (Appends old new) (sym (take-append-add a b n)) (appends_both old mid new a (take n b) h g))

-- a front of a is a front of a and b
pub appends_less : (old new : Option (List ℕ)) (a b : List ℕ) → AppendsFront old new a → AppendsFront old new (a ++ b)
appends_less old new a b (n, h) =
    let short : min n (length a) ≤ length a = omega arith in (
      min n (length a),
      subst (Appends old new) (sym (take_min n a)
          ∙ sym (take-append-le (min n (length a)) a b short)) h,
    )

-- what was written in full is a front of it
pub appends_all : (old new : Option (List ℕ)) (a : List ℕ) → Appends old new a → AppendsFront old new a
appends_all old new a h = (
  length a + 0,
  subst (Appends old new) (sym (append-nil a) ∙ sym (take-append-add a [] 0)
      ∙ ap (take (length a + 0)) (append-nil a)) h,
)

or_false : (h : Bool) → (h || false) ≡ h
or_false true = refl
or_false false = refl

some_bytes : (x : ℕ) (a : List ℕ) → not (length (x ∷ a) == 0) ≡ true
some_bytes x a = ap not (ne_eqb (length (x ∷ a)) 0 (λ z. omega arith))

-- a held back, or b, is what they are together
held_both : (h : Bool) (a b : List ℕ) → ((h || not (length a == 0)) || not (length b == 0))
    ≡ (h || not (length (a ++ b) == 0))
held_both h [] b = ap (λ x. x || not (length b == 0)) (or_false h)
held_both true (x ∷ a) b = refl
held_both false (x ∷ a) b = ap (λ t. t || not (length b == 0)) (some_bytes x a) ∙ sym (some_bytes x (a ++ b))

module _ {E : Type 0} where
  -- a was written, and then b
  pub writes_then : (old mid new : Writing) (a b : List ℕ) (u : Unit {0}) (r : Result Unit E) →
      Writes old a (let ok : Result Unit E = Ok u in ok) mid → Writes mid b r new → Writes old (a ++ b) r new
  writes_then old mid new a b u (Ok v) h g = (
    appends_both old.written mid.written new.written a b h.0 g.0,
    g.1 ∙ h.1,
    g.2 ∙ ap (λ x. x || not (length b == 0)) h.2 ∙ held_both old.held a b,
  )
  writes_then old mid new a b u (Err e) h g = (appends_front old.written mid.written new.written a b h.0 g.0, g.1)

  -- a was not written, so b was not either
  pub writes_stop : {D : Type 0} (old new : Writing) (a b : List ℕ) (d : D) (e : E) →
      Writes old a (let err : Result Unit D = Err d in err) new →
      Writes old (a ++ b) (let err : Result Unit E = Err e in err) new
  writes_stop old new a b d e h = (appends_less old.written new.written a b h.0, h.1)

  -- nothing was to be written
  pub writes_none : (old : Writing) (r : Result Unit E) (u : Unit {0}) → r ≡ Ok u → Writes old [] r old
  writes_none old r u is = subst (λ x. Writes old [] x old) (sym is) (
    appends_none old.written,
    refl,
    sym (or_false old.held),
  )

  -- whether or not all of it went out, a front of it did
  pub front_written : (old new : Writing) (a : List ℕ) (r : Result Unit E) → Writes old a r new →
      AppendsFront old.written new.written a
  front_written old new a (Ok u) h = appends_all old.written new.written a h.0
  front_written old new a (Err e) h = h.0
