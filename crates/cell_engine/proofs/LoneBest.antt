-- One route alone is the best: no filter drops it.
use Rattle.std.proofs.Common.{◌≡◌, ℕ, Bool, true, false, cond, not, ◌&&◌, ◌||◌, nat_lt, List, [], ◌∷◌, length, slice_get, Some, refl, ap, ◌∙◌, arith}
use Rattle.std.proofs.lemmas.Bool.Decides.{nat_tests}
use Rattle.path_attr.specs.Path.{path_length}
use Rattle.path_attr.specs.Attribute.{origin_rank}
use Rattle.route_select.specs.declared.candidate.Candidate.{Candidate}
use Rattle.route_select.specs.declared.filter.Filter.{Filter}
use Rattle.route_select.specs.declared.filter.Filter.TheVariants.{Pref, Length, Origin, Med, External, Cost, Ident, Clusters, Peer}
use Rattle.route_select.specs.Selection.{beats, filters, left_by_all, best_among, same_group, same_peer, is_own, med_of, identifier, peer_address}

not_below : (n : ℕ) → nat_lt n n ≡ false
not_below n = grind (arith, nat_tests)

no_way : (a : Bool) → (a && false) ≡ false
no_way true = refl
no_way false = refl

not_apart : (a b : Bool) → (a && b && not b) ≡ false
not_apart true true = refl
not_apart true false = refl
not_apart false b = refl

-- no filter prefers a route to itself
itself : (always : Bool) (k : Filter) (c : Candidate) → beats always k c c ≡ false
itself always Pref c = not_below c.pref
itself always Length c = not_below (path_length c.attr.path)
itself always Origin c = not_below (origin_rank c.attr.origin)
itself always Med c = ap (λ b. same_group always c c && b) (not_below (med_of c)) ∙ no_way (same_group always c c)
itself always External c = not_apart true c.external
itself always Cost c = not_below c.cost
itself always Ident c = not_below (identifier c).0
itself always Clusters c = not_below (length c.attr.clusters)
itself always Peer c = ap (λ b. b || (same_peer c c && is_own c.source && not (is_own c.source)))
    (not_below (peer_address c.source c.ident).0) ∙ not_apart (same_peer c c) (is_own c.source)

left_alone : (always : Bool) (ks : List Filter) (c : Candidate) → left_by_all always ks (c ∷ []) ≡ c ∷ []
left_alone always [] c = refl
left_alone always (k ∷ ks) c = ap (λ b. left_by_all always ks (cond (not (b || false)) (c ∷ []) [])) (itself always k c)
    ∙ left_alone always ks c

pub best_alone : (always : Bool) (c : Candidate) → best_among always (c ∷ []) ≡ Some c
unfolding best_among
best_alone always c = ap (λ cs. slice_get cs 0) (left_alone always filters c)
