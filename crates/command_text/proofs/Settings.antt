-- Settings of a permit, by the names that their words begin with.
use Rattle.std.proofs.Common.{◌≡◌, ℕ, ◌<◌, ◌^◌, List, [], ◌∷◌, ◌++◌, get_or, codes, Option, Some, None, IfSome, refl, sym, ap, subst, ◌∙◌, append_assoc, arith}
use Rattle.std.specs.Fmt.{decimal}
use Rattle.std.proofs.lemmas.List.{append_cancel_left, append-nil}
use Rattle.route_policy.specs.Repeats.{IsRepeat}
use Rattle.route_policy.specs.declared.rule.Settings.{Settings}
use Rattle.command_text.specs.Words.{setting_words, settings_words}
use Rattle.command_text.specs.Rules.{IsMaybeNumber}
use Rattle.command_text.specs.Reading.{BeginsWith}
use Rattle.command_text.proofs.Numbers.{small_exact}

pub named_first : (word name value : List ℕ) (words rest : List (List ℕ)) → words ≡ word ∷ rest → word ≡ name ++ value →
    words ≡ (name ++ value) ∷ rest
named_first word name value words rest found is = found ∙ ap (λ w. w ∷ rest) is

pub unnamed_first : (word name : List ℕ) (words rest : List (List ℕ)) → words ≡ word ∷ rest →
    ((value : List ℕ) → word ≡ name ++ value → ⊥) → BeginsWith name words → ⊥
unnamed_first word name words rest found none (value, more, begins) = none value (cc (found, begins))

-- a word that begins with the name, and goes on with no number
pub unnumbered : (name value : List ℕ) (words rest : List (List ℕ)) → words ≡ (name ++ value) ∷ rest →
    ((n : ℕ) → n < 2 ^ 32 → value ≡ decimal n → ⊥) →
    (n : Option ℕ) (more : List (List ℕ)) → IsMaybeNumber n → (BeginsWith name more → ⊥) →
    words ≡ setting_words name n ++ more → ⊥
unnumbered name value words rest found none None more h other s = other (value, rest, sym s ∙ found)
unnumbered name value words rest found none (Some n) more h other s =
    let same : name ++ value ≡ name ++ decimal n = cc (found, s) in
    none n h (append_cancel_left name value (decimal n) same)

-- the words from each setting on
abbrev pub from_add : Settings → List (List ℕ)
from_add s = setting_words (codes "add=") s.add ++ []

abbrev pub from_prepend : Settings → List (List ℕ)
from_prepend s = setting_words (codes "prepend=") s.prepend ++ from_add s

abbrev pub from_med : Settings → List (List ℕ)
from_med s = setting_words (codes "med=") s.med ++ from_prepend s

abbrev pub from_pref : Settings → List (List ℕ)
from_pref s = setting_words (codes "pref=") s.pref ++ from_med s

pub in_order : (s : Settings) → settings_words s ≡ from_pref s
in_order s = nested (setting_words (codes "pref=") s.pref) (setting_words (codes "med=") s.med)
    (setting_words (codes "prepend=") s.prepend) (setting_words (codes "add=") s.add)
  where
    nested : (p m r a : List (List ℕ)) → ((p ++ m) ++ r) ++ a ≡ p ++ (m ++ (r ++ (a ++ [])))
    nested p m r a = simp (append_assoc, append-nil)

-- a byte of the first word
byte_at : ℕ → List (List ℕ) → ℕ
byte_at i [] = 0
byte_at i (word ∷ words) = get_or word i 0

-- no setting begins with the name of an earlier one
none_after_pref : (med prepend add : Option ℕ) →
    BeginsWith (codes "pref=") (setting_words (codes "med=") med
    ++ (setting_words (codes "prepend=") prepend ++ (setting_words (codes "add=") add ++ []))) → ⊥
unfolding byte_at
none_after_pref None None None (value, more, e) = absurd (cc)
none_after_pref None None (Some n) (value, more, e) = let bytes : 97 ≡ 112 = ap (byte_at 0) e in omega (arith, bytes)
none_after_pref None (Some n) add (value, more, e) = let bytes : 112 ≡ 102 = ap (byte_at 3) e in omega (arith, bytes)
none_after_pref (Some n) prepend add (value, more, e) = let bytes : 109 ≡ 112 = ap (byte_at 0) e in omega (arith, bytes)

none_after_med : (prepend add : Option ℕ) →
    BeginsWith (codes "med=") (setting_words (codes "prepend=") prepend ++ (setting_words (codes "add=") add ++ [])) → ⊥
unfolding byte_at
none_after_med None None (value, more, e) = absurd (cc)
none_after_med None (Some n) (value, more, e) = let bytes : 97 ≡ 109 = ap (byte_at 0) e in omega (arith, bytes)
none_after_med (Some n) add (value, more, e) = let bytes : 112 ≡ 109 = ap (byte_at 0) e in omega (arith, bytes)

none_after_prepend : (add : Option ℕ) → BeginsWith (codes "prepend=") (setting_words (codes "add=") add ++ []) → ⊥
unfolding byte_at
none_after_prepend None (value, more, e) = absurd (cc)
none_after_prepend (Some n) (value, more, e) = let bytes : 97 ≡ 112 = ap (byte_at 0) e in omega (arith, bytes)

pub after_pref : (s : Settings) → BeginsWith (codes "pref=") (from_med s) → ⊥
after_pref s = none_after_pref s.med s.prepend s.add

pub after_med : (s : Settings) → BeginsWith (codes "med=") (from_prepend s) → ⊥
after_med s = none_after_med s.prepend s.add

pub after_prepend : (s : Settings) → BeginsWith (codes "prepend=") (from_add s) → ⊥
after_prepend s = none_after_prepend s.add

pub after_add : BeginsWith (codes "add=") [] → ⊥
after_add (value, more, e) = absurd (cc)

pub small_repeat : (n : Option ℕ) → IfSome n IsRepeat → IsMaybeNumber n
small_repeat None h = tt
small_repeat (Some n) h = omega (arith, h.1)

-- a setting, and what follows it and does not begin with its name
pub setting_exact : (name : List ℕ) (m n : Option ℕ) (more rest : List (List ℕ)) → IsMaybeNumber m → IsMaybeNumber n →
    (BeginsWith name more → ⊥) → (BeginsWith name rest → ⊥) →
    setting_words name m ++ more ≡ setting_words name n ++ rest → (m ≡ n) × (more ≡ rest)
setting_exact name None None more rest h g other another e = (refl, e)
setting_exact name None (Some n) more rest h g other another e = absurd (other (decimal n, rest, e))
setting_exact name (Some m) None more rest h g other another e = absurd (another (decimal m, more, sym e))
setting_exact name (Some m) (Some n) more rest h g other another e =
    let same : name ++ decimal m ≡ name ++ decimal n = cc in
    (ap Some (small_exact m n h g (append_cancel_left name (decimal m) (decimal n) same)), cc)

-- what is left of words that spell settings, name by name
abbrev Leaves : List ℕ → List (List ℕ) → List (List ℕ) → Type 0
Leaves name words rest = (n : Option ℕ) (more : List (List ℕ)) → (BeginsWith name more → ⊥) →
    words ≡ setting_words name n ++ more → rest ≡ more

pub left_of_med : (all med prepend : List (List ℕ)) (s : Settings) → Leaves (codes "pref=") all med →
    Leaves (codes "med=") med prepend → all ≡ settings_words s → prepend ≡ from_prepend s
left_of_med all med prepend s first second e =
    second s.med (from_prepend s) (after_med s) (first s.pref (from_med s) (after_pref s) (e ∙ in_order s))

pub left_of_prepend : (prepend add : List (List ℕ)) (s : Settings) → Leaves (codes "prepend=") prepend add →
    prepend ≡ from_prepend s → add ≡ from_add s
left_of_prepend prepend add s leaves e = leaves s.prepend (from_add s) (after_prepend s) e

pub prepend_read : (prepend add : List (List ℕ)) (n : Option ℕ) (s : Settings) → IsMaybeNumber n →
    IfSome s.prepend IsRepeat → prepend ≡ setting_words (codes "prepend=") n ++ add →
    prepend ≡ from_prepend s → add ≡ from_add s → n ≡ s.prepend
prepend_read prepend add n s h g found e rest =
    let other = subst (λ words. BeginsWith (codes "prepend=") words → ⊥) (sym rest) (after_prepend s) in
    (setting_exact (codes "prepend=") n s.prepend add (from_add s) h (small_repeat s.prepend g) other
    (after_prepend s) (sym found ∙ e)).0
