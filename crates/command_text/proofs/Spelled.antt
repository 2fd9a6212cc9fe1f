-- No two values are spelled alike.
use Rattle.std.proofs.Common.{◌≡◌, ◌≢◌, ℕ, ◌<◌, Bool, true, false, cond, List, [], ◌∷◌, ◌++◌, map, length, codes, Option, Some, None, refl, sym, ap, subst, ◌∙◌, arith}
use Rattle.std.specs.Fmt.{decimal}
use Rattle.std.specs.Str.{bytes_eq}
use Rattle.std.specs.List.{join_with_byte}
use Rattle.std.proofs.lemmas.List.{append_cancel_right}
use Rattle.std.proofs.lemmas.List.Elements.{All-nil, All-cons, All-head, recursion_from_All}
use Rattle.decimal.specs.Separators.{Lacks, decimal_lacks}
use Rattle.net_prefix.specs.declared.addr.Addr.{Addr}
use Rattle.net_prefix.specs.Address.{addr_text}
use Rattle.net_prefix.specs.AddressText.{addr_text_exact}
use Rattle.net_prefix.specs.Prefix.{Prefix, prefix_text}
use Rattle.net_prefix.specs.PrefixText.{prefix_text_exact}
use Rattle.path_attr.specs.declared.path.Segment.{Segment}
use Rattle.path_attr.specs.declared.path.Segment.TheVariants.{Seq as Sequence, Set}
use Rattle.path_attr.specs.declared.origin.Origin.{Origin}
use Rattle.path_attr.specs.declared.origin.Origin.TheVariants.{Igp, Egp, Incomplete}
use Rattle.route_policy.specs.declared.rule.Rule.{Rule}
use Rattle.route_policy.specs.declared.rule.Match.{Match}
use Rattle.route_policy.specs.declared.rule.Match.TheVariants.{Any, Is, Under, Path, First, Comm}
use Rattle.route_policy.specs.declared.rule.Settings.{Settings}
use Rattle.route_policy.specs.declared.rule.Action.{Action}
use Rattle.route_policy.specs.declared.rule.Action.TheVariants.{Deny, Permit}
use Rattle.net_conf.specs.declared.tables.PolicySide.{PolicySide}
use Rattle.net_conf.specs.declared.tables.PolicySide.TheVariants.{Import, Export}
use Rattle.sim_event.specs.Events.{IsAddress, IsAsNumber, IsPrefix, IsMatch, AreSettings, IsAction}
use Rattle.sim_event.specs.Wording.{none_text, numbers_text, segment_text, path_text, maybe_number_text, origin_text}
use Rattle.command_text.specs.Words.{switch_word, comparison_word, side_word, match_words, settings_words, action_words}
use Rattle.command_text.specs.Rules.{IsRule, rule_words, IsMaybeNumber}
use Rattle.command_text.specs.Paths.{IsAsPath, IsPart, AreParts}
use Rattle.command_text.proofs.FirstWords.{differ}
use Rattle.command_text.proofs.Joins.{joins_same, joins_last}
use Rattle.command_text.proofs.Numbers.{small_exact, numbers_exact, numbers_lack}
use Rattle.command_text.proofs.Segments.{segment_lacks, segments_parts}
use Rattle.command_text.proofs.Settings.{from_med, from_prepend, from_add, in_order, after_pref, after_med, after_prepend, after_add, small_repeat, setting_exact}

pub address_exact : (a b : Addr) → IsAddress a → IsAddress b → addr_text a ≡ addr_text b → a ≡ b
address_exact a b h g e = addr_text_exact a b h g e

pub prefix_exact : (p q : Prefix) → IsPrefix p → IsPrefix q → prefix_text p ≡ prefix_text q → p ≡ q
prefix_exact p q h g e = prefix_text_exact p q h.0 g.0 h.1.0 g.1.0 e

switch_of : List ℕ → Bool
switch_of word = bytes_eq word (codes "on")

pub switch_exact : (a b : Bool) → switch_word a ≡ switch_word b → a ≡ b
unfolding switch_of
switch_exact a b e = sym (back a) ∙ ap switch_of e ∙ back b
  where
    back : (a : Bool) → switch_of (switch_word a) ≡ a
    back true = refl
    back false = refl

is_always : List ℕ → Bool
is_always word = bytes_eq word (codes "always")

pub comparison_exact : (a b : Bool) → comparison_word a ≡ comparison_word b → a ≡ b
unfolding is_always
comparison_exact a b e = sym (back a) ∙ ap is_always e ∙ back b
  where
    back : (a : Bool) → is_always (comparison_word a) ≡ a
    back true = refl
    back false = refl

side_of : List ℕ → PolicySide
side_of word = cond (bytes_eq word (codes "in")) Import Export

pub side_exact : (a b : PolicySide) → side_word a ≡ side_word b → a ≡ b
unfolding side_of
side_exact a b e = sym (back a) ∙ ap side_of e ∙ back b
  where
    back : (a : PolicySide) → side_of (side_word a) ≡ a
    back Import = refl
    back Export = refl

origin_of : List ℕ → Origin
origin_of word = cond (bytes_eq word (codes "igp")) Igp (cond (bytes_eq word (codes "egp")) Egp Incomplete)

pub origin_exact : (a b : Origin) → origin_text a ≡ origin_text b → a ≡ b
unfolding origin_of
origin_exact a b e = sym (back a) ∙ ap origin_of e ∙ back b
  where
    back : (a : Origin) → origin_of (origin_text a) ≡ a
    back Igp = refl
    back Egp = refl
    back Incomplete = refl

-- a dash is no number
not_dash : (n : ℕ) → none_text ≡ decimal n → ⊥
not_dash n e = All-head (λ b. b ≢ 45) 45 [] (subst (Lacks 45) (sym e) (decimal_lacks 45 (λ digit. omega arith) n)) refl

pub maybe_exact : (m n : Option ℕ) → IsMaybeNumber m → IsMaybeNumber n → maybe_number_text m ≡ maybe_number_text n →
    m ≡ n
maybe_exact None None h g e = refl
maybe_exact None (Some n) h g e = absurd (not_dash n e)
maybe_exact (Some m) None h g e = absurd (not_dash m (sym e))
maybe_exact (Some m) (Some n) h g e = ap Some (small_exact m n h g e)

-- segments and paths
unbraced : (ns : List ℕ) (inner : List ℕ) → numbers_text ns ≡ 123 ∷ inner → ⊥
unbraced ns inner e = All-head (λ b. b ≢ 123) 123 inner
    (subst (Lacks 123) e (numbers_lack 123 (λ digit. omega arith) (λ e. omega (arith, e)) ns)) refl

segment_exact : (s t : Segment) → IsPart s → IsPart t → segment_text s ≡ segment_text t → s ≡ t
segment_exact (Sequence ms) (Sequence ns) h g e =
    ap Sequence (numbers_exact 1 ms ns (numbers_text ns) (h.0, recursion_from_All IsAsNumber ms h.1, sym e) (
      g.0,
      recursion_from_All IsAsNumber ns g.1,
      refl,
    ))
segment_exact (Sequence ms) (Set ns) h g e = absurd (unbraced ms _ e)
segment_exact (Set ms) (Sequence ns) h g e = absurd (unbraced ns _ (sym e))
segment_exact (Set ms) (Set ns) h g e =
    let tails : numbers_text ms ++ (125 ∷ []) ≡ numbers_text ns ++ (125 ∷ []) = cc in
    let same : numbers_text ms ≡ numbers_text ns = append_cancel_right (numbers_text ms) (numbers_text ns)
    (125 ∷ []) tails in
    ap Set (numbers_exact 1 ms ns (numbers_text ns) (h.0.0, recursion_from_All IsAsNumber ms h.1, sym same) (
      g.0.0,
      recursion_from_All IsAsNumber ns g.1,
      refl,
    ))

-- a dash is no segment
not_segment : (s : Segment) → IsPart s → none_text ≡ segment_text s → ⊥
not_segment (Sequence ns) h e =
    All-head (λ b. b ≢ 45) 45 []
    (subst (Lacks 45) (sym e) (numbers_lack 45 (λ digit. omega arith) (λ e. omega (arith, e)) ns)) refl
not_segment (Set ns) h e = let heads : ◌≡◌ {A = ℕ} 45 123 = cc in omega (arith, heads)

not_parts : (ss : List Segment) → AreParts ss none_text → ⊥
not_parts ss are =
    let lacks : Lacks 95 none_text = decimal_free in
    let one = joins_last 95 IsPart segment_text segment_lacks ss none_text lacks are in
    not_segment one.0 one.2 one.3
  where
    decimal_free : Lacks 95 none_text
    decimal_free = All-cons (λ b. b ≢ 95) 45 [] (λ e. omega (arith, e)) (All-nil (λ b. b ≢ 95))

parts_of : (ss : List Segment) → 0 < length ss → IsAsPath ss → AreParts ss (join_with_byte 95 (map segment_text ss))
parts_of ss some h = (some, segments_parts ss h.0.0 h.1, refl)

pub path_exact : (p q : List Segment) → IsAsPath p → IsAsPath q → path_text p ≡ path_text q → p ≡ q
unfolding path_text
path_exact [] [] h g e = refl
path_exact [] (t ∷ ts) h g e =
    absurd (not_parts (t ∷ ts) (subst (AreParts (t ∷ ts)) (sym e) (parts_of (t ∷ ts) (omega arith) g)))
path_exact (s ∷ ss) [] h g e =
    absurd (not_parts (s ∷ ss) (subst (AreParts (s ∷ ss)) e (parts_of (s ∷ ss) (omega arith) h)))
path_exact (s ∷ ss) (t ∷ ts) h g e =
    joins_same 95 IsPart segment_text segment_lacks segment_exact (s ∷ ss)
    (t ∷ ts) _ (parts_of (s ∷ ss) (omega arith) h)
    (subst (AreParts (t ∷ ts)) (sym e) (parts_of (t ∷ ts) (omega arith) g))

-- words that begin with two different words
pub apart : {C : Type 0} (a b : List ℕ) (more rest : List (List ℕ)) → bytes_eq a b ≡ false → a ∷ more ≡ b ∷ rest → C
apart a b more rest other e = absurd (differ a b other (cc))

abbrev kind_word : Match → List ℕ
kind_word Any = codes "any"
kind_word (Is p) = codes "is"
kind_word (Under p) = codes "under"
kind_word (Path n) = codes "path"
kind_word (First n) = codes "first"
kind_word (Comm n) = codes "comm"

-- a match, and what follows it
pub match_exact : (m n : Match) (more rest : List (List ℕ)) → IsMatch m → IsMatch n →
    match_words m ++ more ≡ match_words n ++ rest → (m ≡ n) × (more ≡ rest)
match_exact Any Any more rest h g e = (refl, cc)
match_exact (Is p) (Is q) more rest h g e = (ap Is (prefix_exact p q h g (cc)), cc)
match_exact (Under p) (Under q) more rest h g e = (ap Under (prefix_exact p q h g (cc)), cc)
match_exact (Path m) (Path n) more rest h g e = (ap Path (small_exact m n h.1 g.1 (cc)), cc)
match_exact (First m) (First n) more rest h g e = (ap First (small_exact m n h.1 g.1 (cc)), cc)
match_exact (Comm m) (Comm n) more rest h g e = (ap Comm (small_exact m n h g (cc)), cc)
match_exact m n more rest h g e = apart (kind_word m) (kind_word n) _ _ refl e

settings_exact : (s t : Settings) → AreSettings s → AreSettings t → settings_words s ≡ settings_words t → s ≡ t
settings_exact s t h g e =
    let first = setting_exact (codes "pref=") s.pref t.pref (from_med s) (from_med t) h.0 g.0 (after_pref s)
    (after_pref t) (sym (in_order s) ∙ e ∙ in_order t) in
    let second = setting_exact (codes "med=") s.med t.med (from_prepend s) (from_prepend t) h.1 g.1 (after_med s)
    (after_med t) first.1 in
    let third = setting_exact (codes "prepend=") s.prepend t.prepend (from_add s) (from_add t)
    (small_repeat s.prepend h.2) (small_repeat t.prepend g.2) (after_prepend s) (after_prepend t) second.1 in
    let fourth = setting_exact (codes "add=") s.add t.add [] [] h.3 g.3 after_add after_add third.1 in
    λ i. record { pref = first.0 i; med = second.0 i; prepend = third.0 i; add = fourth.0 i }

action_exact : (a b : Action) → IsAction a → IsAction b → action_words a ≡ action_words b → a ≡ b
action_exact Deny Deny h g e = refl
action_exact Deny (Permit t) h g e = apart (codes "deny") (codes "permit") _ _ refl e
action_exact (Permit s) Deny h g e = apart (codes "permit") (codes "deny") _ _ refl e
action_exact (Permit s) (Permit t) h g e = ap Permit (settings_exact s t h g (cc))

pub rule_exact : (a b : Rule) → IsRule a → IsRule b → rule_words a ≡ rule_words b → a ≡ b
rule_exact a b h g e =
    let parts = match_exact a.cond b.cond (action_words a.act) (action_words b.act) h.0 g.0 e in
    let acts = action_exact a.act b.act h.1 g.1 parts.1 in
    λ i. record { cond = parts.0 i; act = acts i }
