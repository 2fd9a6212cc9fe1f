-- No public contract cites this file.
-- The values in commands and replies are spelled by visible bytes: no space is among them, and no line feed.
use Rattle.std.specs.Prelude.{◌≡◌, ◌≢◌, ℕ, ◌<◌, Bool, true, false, nat_lt, cond, List, [], ◌∷◌, ◌++◌, map, Option, Some, None}
use Rattle.std.specs.Fmt.{decimal}
use Rattle.std.specs.List.{All, join_with_byte}
use Rattle.std.proofs.Common.{⊎_elim, refl, sym, ap, ◌∙◌, subst, arith}
use Rattle.std.proofs.lemmas.Bool.{cases_Bool, true≢false, ltb-true}
use Rattle.std.proofs.lemmas.List.Elements.{All-nil, All-cons, All-append, All-weaker}
use Rattle.decimal.specs.Digits.{IsDigit, decimal_digits}
use Rattle.decimal.specs.Separators.{Lacks}
use Rattle.net_prefix.specs.declared.addr.Addr.{Addr}
use Rattle.net_prefix.specs.Address.{addr_text}
use Rattle.net_prefix.specs.AddressText.{IsAddressByte, IsPrefixByte, addr_text_bytes}
use Rattle.net_prefix.specs.Prefix.{Prefix, prefix_text}
use Rattle.net_prefix.specs.PrefixText.{prefix_text_bytes}
use Rattle.path_attr.specs.declared.path.Segment.{Segment}
use Rattle.path_attr.specs.declared.path.Segment.TheVariants.{Seq as Sequence, Set}
use Rattle.path_attr.specs.declared.origin.Origin.{Origin}
use Rattle.path_attr.specs.declared.origin.Origin.TheVariants.{Igp, Egp, Incomplete}
use Rattle.sim_event.specs.Wording.{none_text, maybe_number_text, maybe_addr_text, numbers_text, segment_text, path_text, origin_text, clusters_text}

-- above a space
abbrev pub IsVisible : ℕ → Type 0
IsVisible b = 32 < b

abbrev pub AreVisible : List ℕ → Type 0
AreVisible text = All IsVisible text

-- the same as a test, for texts that are written out
abbrev pub are_visible : List ℕ → Bool
are_visible [] = true
are_visible (b ∷ bs) = cond (nat_lt 32 b) (are_visible bs) false

pub visible_word : (text : List ℕ) → are_visible text ≡ true → AreVisible text
visible_word [] e = All-nil IsVisible
visible_word (b ∷ bs) e = ⊎_elim
    (λ t. All-cons IsVisible b bs (ltb-true 32 b t)
    (visible_word bs (sym (ap (λ x. cond x (are_visible bs) false) t) ∙ e)))
    (λ f. absurd (true≢false (sym e ∙ ap (λ x. cond x (are_visible bs) false) f)))
    (cases_Bool (nat_lt 32 b))

pub visible_both : (a b : List ℕ) → AreVisible a → AreVisible b → AreVisible (a ++ b)
visible_both a b h g = All-append IsVisible a b h g

-- a byte that is not visible, such as a space or a line feed, stands in no such text
pub visible_lacks : (separator : ℕ) → (32 < separator → ⊥) → (text : List ℕ) → AreVisible text → Lacks separator text
visible_lacks separator other text h =
    All-weaker IsVisible (λ b. b ≢ separator) (λ b over same. other (subst IsVisible same over)) text h

pub visible_decimal : (n : ℕ) → AreVisible (decimal n)
visible_decimal n = All-weaker IsDigit IsVisible (λ b digit. omega arith) (decimal n) (decimal_digits n)

pub visible_addr : (a : Addr) → AreVisible (addr_text a)
visible_addr a = All-weaker IsAddressByte IsVisible (λ b byte. omega (arith, byte.0.0)) (addr_text a)
    (addr_text_bytes a)

pub visible_prefix : (p : Prefix) → AreVisible (prefix_text p)
visible_prefix p = All-weaker IsPrefixByte IsVisible (λ b byte. omega (arith, byte.0)) (prefix_text p)
    (prefix_text_bytes p)

-- texts joined by a visible byte
pub visible_joined : {X : Type 0} (c : ℕ) (f : X → List ℕ) → 32 < c → ((x : X) → AreVisible (f x)) → (xs : List X) →
    AreVisible (join_with_byte c (map f xs))
visible_joined c f over each [] = All-nil IsVisible
visible_joined c f over each (x ∷ []) = each x
visible_joined c f over each (x ∷ y ∷ more) =
    visible_both (f x) (c ∷ join_with_byte c (map f (y ∷ more))) (each x)
    (All-cons IsVisible c (join_with_byte c (map f (y ∷ more))) over (visible_joined c f over each (y ∷ more)))

pub visible_numbers : (ns : List ℕ) → AreVisible (numbers_text ns)
visible_numbers ns = visible_joined 44 decimal (omega arith) visible_decimal ns

pub visible_segment : (s : Segment) → AreVisible (segment_text s)
visible_segment (Sequence ns) = visible_numbers ns
visible_segment (Set ns) =
    All-cons IsVisible 123 (numbers_text ns ++ (125 ∷ [])) (omega arith)
    (visible_both (numbers_text ns) (125 ∷ []) (visible_numbers ns)
    (All-cons IsVisible 125 [] (omega arith) (All-nil IsVisible)))

pub visible_path : (p : List Segment) → AreVisible (path_text p)
unfolding path_text
visible_path [] = visible_word none_text refl
visible_path (s ∷ ss) = visible_joined 95 segment_text (omega arith) visible_segment (s ∷ ss)

pub visible_origin : (o : Origin) → AreVisible (origin_text o)
visible_origin Igp = visible_word (origin_text Igp) refl
visible_origin Egp = visible_word (origin_text Egp) refl
visible_origin Incomplete = visible_word (origin_text Incomplete) refl

pub visible_maybe_number : (n : Option ℕ) → AreVisible (maybe_number_text n)
visible_maybe_number None = visible_word none_text refl
visible_maybe_number (Some n) = visible_decimal n

pub visible_maybe_addr : (a : Option Addr) → AreVisible (maybe_addr_text a)
visible_maybe_addr None = visible_word none_text refl
visible_maybe_addr (Some a) = visible_addr a

pub visible_clusters : (c : List Addr) → AreVisible (clusters_text c)
visible_clusters [] = visible_word none_text refl
visible_clusters (a ∷ more) = visible_joined 44 addr_text (omega arith) visible_addr (a ∷ more)
