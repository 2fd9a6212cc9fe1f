-- A table of which no cell can change need not be walked.
use Rattle.std.proofs.Common.{◌≡◌, Bool, true, false, not, cond, List, [], ◌∷◌, map, filter, Some, refl, ap, ◌∙◌}
use Rattle.std.proofs.lemmas.Bool.{true≢false}
use Rattle.std.specs.Bool.{OnTrue}
use Rattle.std.specs.List.{AllByRecursion}
use Rattle.std.specs.FinMap as finite
use Rattle.std.specs.FinMap.Entries as entries
use Rattle.net_prefix.specs.Prefix.{Prefix, prefix_cmp}
use Rattle.net_prefix.specs.Orders.{prefix_total}
use Rattle.prefix_table.specs.Tables.{Table}
use Rattle.cell_engine.specs.Cells.{Cell}
use Rattle.cell_engine.specs.SiteMoves.{SitePair, is_moved, MovesCostsAlone}
use Rattle.cell_engine.proofs.OneHop.{none_by_hop, none_moved}
use Rattle.cell_engine.specs.Hops.{Have, AreKnown}
use Rattle.cell_engine.specs.declared.hop_table.hops.Hops.{Hops}
use Rattle.cell_engine.specs.declared.hop_table.hops.Hops.TheVariants.{Nothing, Only, Several}
use Rattle.cell_engine.proofs.Chunks.{of_T}
use Rattle.cell_engine.proofs.Refreshed.{all_from, found_each}
use Rattle.cell_engine.specs.Becomings.{Becoming, MovedCell, can_change, moves_one_of, moved_cells}

-- what holds where a test says no
pub leaves_by : (b : Bool) (P : Type 0) → (b ≡ false → P) → OnTrue (not b) P
leaves_by true P h = tt
leaves_by false P h = h refl

-- no route with these NEXT_HOPs moves
pub none_of_hops : (s : SitePair) → MovesCostsAlone s → (hops : Hops) → moves_one_of s hops ≡ false →
    (p : Prefix) (h : Cell) → Have hops h.received → is_moved s p h.received ≡ false
none_of_hops s alone Nothing stays p h have = ap (is_moved s p) have ∙ none_moved s p alone
none_of_hops s alone (Only a) stays p h have = none_by_hop s p a stays alone h.received have
none_of_hops s alone Several stays p h have = absurd (true≢false stays)

module _ (b : Becoming) where
  abbrev moves : Prefix × Cell → Bool
  moves e = can_change b e.0 e.1

  abbrev cell : Prefix × Cell → MovedCell
  cell e = record { becoming = b; prefix = e.0; cell = e.1 }

  none_chosen : (cells : List (Prefix × Cell)) → AllByRecursion (λ e. moves e ≡ false) cells → moved_cells b cells ≡ []
  none_chosen [] all = refl
  none_chosen (e ∷ es) all = ap (λ c. map cell (cond c (e ∷ filter moves es) (filter moves es))) all.0
      ∙ none_chosen es all.1

  -- and so none of the table, whose routes have these
  pub none_of_table : (hops : Hops) (t : Table Cell) → AreKnown hops t →
      ((p : Prefix) (h : Cell) → Have hops h.received → can_change b p h ≡ false) →
      moved_cells b (finite.entries t) ≡ []
  none_of_table hops t known stays =
      none_chosen (finite.entries t)
      (all_from (λ e. entries.find prefix_cmp e.0 (finite.entries t) ≡ Some e.1) (λ e. moves e ≡ false)
      (λ e found. stays e.0 e.1 (known e.0 e.1 (finite.get-entries t e.0 ∙ found))) (finite.entries t)
      (found_each prefix_total (finite.entries t) (of_T _ (finite.entries_sorted t))))
