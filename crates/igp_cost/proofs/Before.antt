-- Labels by places, with one more.
use Rattle.std.proofs.Common.{◌≡◌, ℕ, ◌+◌, ◌<◌, ◌≤◌, [], ◌∷◌, ◌++◌, length, Option, Some, None, IfSome, refl, sym, ◌∙◌, subst, inl, inr, arith}
use Rattle.std.proofs.lemmas.Bool.{cases_lt}
use Rattle.std.proofs.lemmas.Option.{none-some}
use Rattle.std.proofs.lemmas.List.{get_or_append_left, get_or_push, get_or_past, length_push}
use Rattle.igp_cost.specs.declared.label.Label.{Label}
use Rattle.igp_cost.specs.Walks.{Nodes}
use Rattle.igp_cost.specs.Labels.{Labels, AreLimited, label_at}
use Rattle.igp_cost.specs.Offers.{tree_by, SaySame, AreLabelsOf}
use Rattle.igp_cost.specs.Trees.{Reached}
use Rattle.igp_cost.specs.Wired.{IsRising}
use Rattle.igp_cost.proofs.Rows.{row_at}

-- what holds of each label and of one more holds of all
pub more : (P : ℕ → Option Label → Type 0) (labels : Labels) (n : ℕ) (label : Option Label) → length labels ≡ n →
    ((v : ℕ) → v < n → P v (label_at labels v)) → P n label → (v : ℕ) → v < n + 1 →
    P v (label_at (labels ++ label ∷ []) v)
more P labels n label count old here v lt = elim (cases_lt v n) [
  | inl before ↦ subst (P v) (sym (get_or_append_left labels (label ∷ []) None v (omega (arith, before, count))))
      (old v before)
  | inr after ↦
      let at : n ≡ v = omega (arith, after, lt) in
      subst (λ k. P k (label_at (labels ++ label ∷ []) k)) at
      (subst (P n) (sym (get_or_push labels label None n count)) here)
]

-- limited labels, and a limited one more, are limited
pub limited_more : (labels : Labels) (label : Option Label) → AreLimited labels →
    IfSome label (λ l. l.cost ≤ 268435456) → AreLimited (labels ++ label ∷ [])
limited_more labels label limited here v = elim (cases_lt v (length labels + 1)) [
  | inl before ↦ more (λ v o. (l : Label) → o ≡ Some l → l.cost ≤ 268435456) labels (length labels) label refl
      (λ k lt. limited k) (λ l is. subst (λ o. IfSome o (λ l. l.cost ≤ 268435456)) is here) v before
  | inr after ↦ λ l is. absurd
      (none-some l (sym (get_or_past (labels ++ label ∷ []) v None (omega (arith, after, length_push labels label)))
      ∙ is))
]

-- a tree says of each node what its labels do
pub said_same : (nodes : Nodes) (s : ℕ) (labels : Labels) (t : Reached) → IsRising nodes →
    length labels ≡ length nodes → AreLabelsOf nodes t labels → SaySame nodes t (tree_by nodes s labels)
said_same nodes s labels t rising same known v lt = row_at nodes labels rising same v lt ∙ known v lt
