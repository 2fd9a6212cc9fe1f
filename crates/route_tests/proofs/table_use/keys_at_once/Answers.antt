-- A key is the same whether its value is seen or not.
use Rattle.std.proofs.Common.{◌≡◌, List, [], ◌∷◌, map, refl, ap, ◌∙◌, arith}
use Rattle.std.specs.Borrow.{Bor}
use Rattle.net_prefix.specs.Prefix.{Prefix}
use Rattle.prefix_table.specs.Tables.{all_seen}
use Rattle.std.proofs.lemmas.List.{take_all}
use Rattle.route_tests.proofs.table_use.keys_at_once.Goals as goal

keys_seen : {V : Type 0} (es : List (Prefix × Bor V)) →
    ◌≡◌ {A = List Prefix} (map (λ e. e.0) es) (map (λ e. e.0) (all_seen es))
keys_seen [] = refl
keys_seen (e ∷ es) = ap (λ l. e.0 ∷ l) (keys_seen es)

pub returns : goal.returns
returns g c =
    let items = c.in_ok-entries.entries.items in
    let all : c.loop-entry.keys.items ≡ map (λ e. e.0) items = grind (
      arith,
      c.loop-entry.invariant,
      c.loop-entry-test.false,
      c.deref-entry-items.ensures.value,
      take_all,
    ) in
    all ∙ keys_seen items ∙ ap (map (λ e. e.0)) c.in_ok-entries.ensures
