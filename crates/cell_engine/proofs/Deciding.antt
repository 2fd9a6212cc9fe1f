-- Cells decided anew: by one thread or by many, the list is the same.
use Rattle.std.proofs.Common.{◌≡◌, List, [], ◌∷◌, ◌++◌, map, filter, refl, ap, ◌∙◌, Ok, Err, IfOk}
use Rattle.std.proofs.lemmas.List.{map-append}
use Rattle.std.specs.Prelude.{Result, MatchResult}
use Rattle.std.specs.Borrow.{Bor}
use Rattle.std.specs.List.{AllZip}
use Rattle.std.specs.declared.vec.Vec.{Vec}
use Rattle.std.specs.FinMap as finite
use Rattle.net_prefix.specs.declared.addr.Addr.{Addr}
use Rattle.net_prefix.specs.Prefix.{Prefix}
use Rattle.prefix_table.specs.Tables.{Table}
use Rattle.cell_engine.specs.RouterTables.{table_at}
use Rattle.cell_engine.specs.Cells.{Cell}
use Rattle.cell_engine.specs.Changes.{router_changes}
use Rattle.cell_engine.specs.Moves.{moves}
use Rattle.cell_engine.specs.Becomings.{Becoming, can_change, change_at, moved_cells, all_moved, becoming_changes, all_changes}

-- IN THREADS

module _ {X Y E : Type 0} (make : X → Y) (P : Bor X → Result Y E → Type 0) (made : (z : Bor X) (y : Y) → P z (Ok y) →
    y ≡ make z.now) where
  -- results that are all `Ok`, each as the function says
  made_each : (zs : List (Bor X)) (ys : List Y) → AllZip P zs (map Ok ys) →
      ys ≡ map make (map (λ (z : Bor X). z.now) zs)
  made_each [] [] h = refl
  made_each [] (y ∷ ys) h = absurd h
  made_each (z ∷ zs) [] h = absurd h
  made_each (z ∷ zs) (y ∷ ys) h = ap (λ (e : Y). e ∷ ys) (made z y h.0)
      ∙ ap (λ (l : List Y). make z.now ∷ l) (made_each zs ys h.1)

  -- what `collect` into a `Result` says of a chain over a slice
  pub made_all : {A : Type 0} (r : Result (Vec Y A) E) (items : List X) (zs : List (Bor X))
      (xs : List (Result Y E)) (Q : E → Type 0)
      → map (λ (z : Bor X). z.now) zs ≡ items → AllZip P zs xs
      → MatchResult r (λ v. (ys : List Y) × (xs ≡ map Ok ys) × (v.items ≡ ys)) Q
      → IfOk r (λ v. v.items ≡ map make items)
  made_all (Ok v) items zs xs Q slice each h = h.2 ∙ made_each zs h.0 (rw h.1 at each) ∙ ap (map make) slice
  made_all (Err e) items zs xs Q slice each h = tt

-- THE CELLS OF AN EDIT

mapped_twice : {A B C : Type 0} (f : B → C) (g : A → B) (xs : List A) → map f (map g xs) ≡ map (λ x. f (g x)) xs
mapped_twice f g [] = refl
mapped_twice f g (x ∷ xs) = ap (λ l. f (g x) ∷ l) (mapped_twice f g xs)

-- what becomes of those that can change
pub decided_cells : (b : Becoming) (cells : List (Prefix × Cell)) →
    map change_at (moved_cells b cells) ≡ router_changes (moves b.before b.after) b.before b.after b.address cells
decided_cells b cells = mapped_twice change_at (λ e. record { becoming = b; prefix = e.0; cell = e.1 })
    (filter (λ e. can_change b e.0 e.1) cells)

-- wherever the edit is seen
pub decided_all : (ts : List (Addr × Table Cell)) (bs : List Becoming) →
    map change_at (all_moved bs ts) ≡ all_changes bs ts
decided_all ts [] = refl
decided_all ts (b ∷ bs) =
    let cells : List (Prefix × Cell) = finite.entries (table_at b.address ts) in
    map-append change_at (moved_cells b cells) (all_moved bs ts)
    ∙ ap (λ l. l ++ map change_at (all_moved bs ts)) (decided_cells b cells)
    ∙ ap (λ l. becoming_changes ts b ++ l) (decided_all ts bs)
