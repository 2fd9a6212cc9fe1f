-- No rule asks for LOCAL_PREF.
use Rattle.std.proofs.Common.{◌≡◌, ℕ, Bool, List, [], ◌∷◌, Option, refl, sym, ap, ◌∙◌}
use Rattle.std.specs.Prelude.{find, option_map, unwrap_or}
use Rattle.net_prefix.specs.Prefix.{Prefix}
use Rattle.path_attr.specs.declared.attr.Attr.{Attr}
use Rattle.route_policy.specs.declared.rule.Match.{Match}
use Rattle.route_policy.specs.declared.rule.Match.TheVariants.{Any, Is, Under, Path, First, Comm}
use Rattle.route_policy.specs.declared.rule.Rule.{Rule}
use Rattle.route_policy.specs.Judging.{matches, judged, plain_permit}

find_agree : {X : Type 0} (p q : X → Bool) → ((x : X) → p x ≡ q x) → (xs : List X) → find p xs ≡ find q xs
find_agree p q same [] = refl
find_agree p q same (x ∷ xs) = rw (same x, find_agree p q same xs) refl

matches_at : (c : Match) (p : Prefix) (a : Attr) (pref : Option ℕ) →
    matches c p a ≡ matches c p (record a { pref = pref })
matches_at Any p a pref = refl
matches_at (Is q) p a pref = refl
matches_at (Under q) p a pref = refl
matches_at (Path n) p a pref = refl
matches_at (First n) p a pref = refl
matches_at (Comm n) p a pref = refl

judged_at : (rules : List Rule) (p : Prefix) (a : Attr) (pref : Option ℕ) →
    judged rules p a ≡ judged rules p (record a { pref = pref })
judged_at rules p a pref =
    unfold judged in
    ap (λ o. unwrap_or (option_map (λ r. r.act) o) plain_permit)
    (find_agree (λ r. matches r.cond p a) (λ r. matches r.cond p (record a { pref = pref }))
    (λ r. matches_at r.cond p a pref) rules)

-- routes that are the same but for LOCAL_PREF are judged alike
pub judged_at_any_preference : (rules : List Rule) (p : Prefix) (a b : Attr) → b ≡ record a { pref = b.pref } →
    judged rules p a ≡ judged rules p b
judged_at_any_preference rules p a b same = judged_at rules p a b.pref ∙ ap (judged rules p) (sym same)
