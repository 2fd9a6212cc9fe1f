-- Sites that originate the same prefixes move no prefix of their own.
use Rattle.std.proofs.Common.{◌≡◌, true, false, not, ◌==◌, List, [], ◌∷◌, refl, sym, ap, ◌∙◌}
use Rattle.std.proofs.lemmas.Bool.{true≢false}
use Rattle.std.proofs.Math.Bool.{beq}
use Rattle.std.specs.Cmp.{unsigned_Decides, booleans_Decides, first_so, second_so}
use Rattle.std.specs.Cmp.Lexicographic.{pointwise}
use Rattle.std.specs.List.{list_any}
use Rattle.net_prefix.specs.Prefix.{Prefix, same_prefix}
use Rattle.reference_machine.specs.Decision.{is_originated}
use Rattle.cell_engine.specs.SiteMoves.{SitePair, is_own_moved}
use Rattle.cell_engine.specs.MoveTests.{same_origins}

prefix_true : (p q : Prefix) → same_prefix p q ≡ true → p ≡ q
prefix_true p q h =
    let address = (unsigned_Decides p.addr.0 q.addr.0).0 (first_so (p.addr.0 == q.addr.0) (p.len == q.len) h) in
    let length = (unsigned_Decides p.len q.len).0 (second_so (p.addr.0 == q.addr.0) (p.len == q.len) h) in
    λ i. record { addr = record { 0 = address i }; len = length i }

same_list : (ps qs : List Prefix) → pointwise same_prefix ps qs ≡ true → ps ≡ qs
same_list [] [] h = refl
same_list [] (q ∷ qs) h = absurd (true≢false (sym h))
same_list (p ∷ ps) [] h = absurd (true≢false (sym h))
same_list (p ∷ ps) (q ∷ qs) h =
    let head = prefix_true p q (first_so (same_prefix p q) (pointwise same_prefix ps qs) h) in
    let tail = same_list ps qs (second_so (same_prefix p q) (pointwise same_prefix ps qs) h) in
    λ i. head i ∷ tail i

pub same_own : (s : SitePair) (p : Prefix) → same_origins s.old s.new ≡ true → is_own_moved s p ≡ false
same_own s p h =
    ap (λ os. not (beq (list_any (same_prefix p) s.old.origins) (list_any (same_prefix p) os)))
    (sym (same_list s.old.origins s.new.origins h))
    ∙ ap not ((booleans_Decides (is_originated s.old p) (is_originated s.old p)).1 refl)

-- nor does one that was not originated come, so that one look tells of both
pub own_before : (s : SitePair) (p : Prefix) → same_origins s.old s.new ≡ true →
    is_originated s.new p ≡ is_originated s.old p
own_before s p h = ap (λ os. list_any (same_prefix p) os) (sym (same_list s.old.origins s.new.origins h))
