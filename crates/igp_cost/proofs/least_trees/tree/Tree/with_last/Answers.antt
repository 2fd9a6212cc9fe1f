use Rattle.std.proofs.Common.{List, [], ◌∷◌, ◌≡◌, sym, ap, ◌∙◌, ◌++◌, subst, append_assoc, rules}
use Rattle.net_prefix.specs.declared.addr.Addr.{Addr}
use Rattle.igp_cost.specs.declared.label.Label.{Label}
use Rattle.igp_cost.specs.Trees.{Reached, source_of}
use Rattle.igp_cost.specs.Wired.{AreAscending, AreBelow}
use Rattle.igp_cost.proofs.Apart.{pushed_rises, one_more_above}
use Rattle.igp_cost.proofs.least_trees.tree.Tree.with_last.Goals as goal

pub invariant_of-result : goal.invariant_of-result
invariant_of-result c =
    let row : Addr × Label = (c.args.to, c.args.label) in
    let old = c.self.inside.rows ++ c.self.inside.last in
    let last : c.in_ok-of.field-0 ≡ c.self.inside.last ++ row ∷ [] = search rules in
    let is = ap (λ l. l ++ c.in_ok-of.field-0) c.in_ok-share.ensures ∙ ap (λ l. c.self.inside.rows ++ l) last
    ∙ sym (append_assoc c.self.inside.rows c.self.inside.last (row ∷ [])) in
    let below = subst (λ (l : List (Addr × Label)). AreBelow l c.args.to)
    (sym (ap (λ (t : Reached). t.labels) c.self.view_is)) c.requires in
    subst AreAscending (sym is) (pushed_rises old row c.self.invariant below)

pub returns : goal.returns
returns c =
    let row : Addr × Label = (c.args.to, c.args.label) in
    let t = c.args.self.now in
    let labels = ap (λ (t : Reached). t.labels) c.self.view_is in
    let last : c.in_ok-of.field-0 ≡ c.self.inside.last ++ row ∷ [] = search rules in
    let is = ap (λ l. l ++ c.in_ok-of.field-0) c.in_ok-share.ensures ∙ ap (λ l. c.self.inside.rows ++ l) last
    ∙ sym (append_assoc c.self.inside.rows c.self.inside.last (row ∷ [])) ∙ ap (λ l. l ++ row ∷ []) labels in
    let said : Addr → List (Addr × Label) → Reached = λ a l. record { source = a; labels = l } in
    let made = said c.self.inside.source (c.in_ok-share.field-0 ++ c.in_ok-of.field-0) in
    one_more_above t row made (subst AreAscending labels c.self.invariant) c.requires (ap (said c.self.inside.source) is
    ∙ ap (λ a. said a (t.labels ++ row ∷ [])) (ap source_of c.self.view_is))
