use Rattle.std.proofs.Common.{◌≡◌, ℕ, List, [], ◌∷◌, length, not, ◌==◌, refl, sym, ap, ◌∙◌, arith}
use Rattle.std.proofs.lemmas.Bool.{ne_eqb}
use Rattle.log_text.specs.Versions.{has_some, tells_communities}
use Rattle.log_text.proofs.version.tells_communities.Goals as goal

some_counted : (ns : List ℕ) → not (length ns == 0) ≡ has_some ns
some_counted [] = refl
some_counted (n ∷ ns) = ap not (ne_eqb (length (n ∷ ns)) 0 (λ z. omega (arith, z)))

pub returns-in-Update : goal.returns-in-Update
returns-in-Update c =
    ap not c.is_empty.ensures ∙ some_counted c.numbers.result.now ∙ ap has_some c.numbers.ensures.value
    ∙ sym (ap tells_communities c.in-Update.is)
