-- Rows by places, and the labels that they say.
use Rattle.std.proofs.Common.{◌≡◌, ℕ, suc, ◌+◌, ◌<◌, ◌≤◌, ◌≢◌, List, [], ◌∷◌, ◌++◌, length, get_or, Some, None, IfSome, Bool, true, false, if◌then◌else◌, refl, sym, ap, ◌∙◌, subst, inl, inr, arith}
use Rattle.std.specs.Bool.{OnTrue}
use Rattle.std.specs.Option.{option_to_list}
use Rattle.std.proofs.lemmas.Bool.{cases_lt}
use Rattle.std.proofs.lemmas.List.{get_or-map, length-map, map-append, get_or_append_left, get_or_push, get_or_past}
use Rattle.std.proofs.lemmas.Option.{none-some}
use Rattle.net_prefix.specs.declared.addr.Addr.{Addr}
use Rattle.igp_cost.specs.declared.label.Label.{Label}
use Rattle.igp_cost.specs.Walks.{Nodes}
use Rattle.igp_cost.specs.Labels.{AreLimited, addr_at, label_at}
use Rattle.igp_cost.specs.Offers.{AreLabelsOf}
use Rattle.igp_cost.specs.Trees.{Reached, label_in}
use Rattle.igp_cost.specs.Wired.{IsRising, AreAscending, rows_of, no_row, row as row_for}
use Rattle.igp_cost.specs.Placed.{known, labels_of, tree_in, ArePlaced}
use Rattle.igp_cost.proofs.Codes.{test_false}
use Rattle.igp_cost.proofs.Places.{lookup_at}
use Rattle.igp_cost.proofs.Rows.{row_at}

pub on_both : (b : Bool) (P Q R : Type 0) → (P → Q → R) → OnTrue b P → OnTrue b Q → OnTrue b R
on_both true P Q R f p q = f p q
on_both false P Q R f p q = tt

-- a row with a cost says it
pub known_some : (l : Label) → l.cost ≢ 4294967295 → known l ≡ Some l
known_some l differs = ap (λ t. if t then None else Some l) (test_false l.cost 4294967295 differs)

-- the label of a place is what its row says
pub label_of_row : (rows : List (Addr × Label)) (v : ℕ) (d : Addr × Label) → v < length rows →
    label_at (labels_of rows) v ≡ known (get_or rows v d).1
label_of_row rows v d lt = get_or-map (λ r. known r.1) rows v d None lt

pub count_of_labels : (nodes : Nodes) (rows : List (Addr × Label)) → length rows ≡ length nodes →
    length (labels_of rows) ≡ length nodes
count_of_labels nodes rows same = length-map rows (λ r. known r.1) ∙ same

-- the tree of rows says of a node what its row does
pub said_by_row : (nodes : Nodes) (s : ℕ) (rows : List (Addr × Label)) → IsRising nodes → length rows ≡ length nodes →
    (v : ℕ) (d : Addr × Label) → v < length nodes → label_in (tree_in nodes s rows) (addr_at nodes v)
    ≡ known (get_or rows v d).1
said_by_row nodes s rows rising same v d lt =
    row_at nodes (labels_of rows) rising (count_of_labels nodes rows same) v lt
    ∙ label_of_row rows v d (omega (arith, lt, same))

-- rows with costs within the limit
pub limited_rows : (rows : List (Addr × Label)) →
    ((v : ℕ) → v < length rows → (get_or rows v no_row).1.cost ≤ 268435456) → AreLimited (labels_of rows)
limited_rows rows each v l is = elim (cases_lt v (length rows)) [
  | inl lt ↦
      let row = get_or rows v no_row in
      let said = sym (known_some row.1 (λ q. omega (arith, each v lt, q))) ∙ sym (label_of_row rows v no_row lt) ∙ is in
      subst (λ o. IfSome o (λ k. k.cost ≤ 268435456)) said (each v lt)
  | inr past ↦ absurd (none-some l
      (sym (get_or_past (labels_of rows) v None (omega (arith, past, length-map rows (λ r. known r.1)))) ∙ is))
]

-- rows of a tree that stand by the places of all nodes say of these what the tree does
pub labels_in_place : (nodes : Nodes) (t : Reached) → AreAscending t.labels → ArePlaced nodes t.labels →
    ((v : ℕ) → v < length t.labels → (get_or t.labels v no_row).1.cost ≤ 268435456) →
    AreLabelsOf nodes t (labels_of t.labels)
labels_in_place nodes t ascending placed each v lt =
    let within : v < length t.labels = omega (arith, lt, placed.count) in
    let row = get_or t.labels v no_row in
    label_of_row t.labels v no_row within ∙ known_some row.1 (λ q. omega (arith, each v within, q))
    ∙ sym (lookup_at no_row t.labels ascending v (addr_at nodes v) within (placed.each v lt))

-- where each row has a cost, the rows are those of what they say
pub whole_rows : (nodes : Nodes) (rows : List (Addr × Label)) → ArePlaced nodes rows →
    ((k : ℕ) (d : Addr × Label) → k < length rows → (get_or rows k d).1.cost ≢ 4294967295) →
    rows_of nodes (labels_of rows) ≡ rows
whole_rows [] [] placed all = refl
whole_rows [] (row ∷ rows) placed all = absurd (omega (arith, placed.count))
whole_rows (node ∷ nodes) [] placed all = absurd (omega (arith, placed.count))
whole_rows (node ∷ nodes) (row ∷ rows) placed all =
    let others : ArePlaced nodes rows = record {
      count = omega (arith, placed.count);
      each = λ v lt. placed.each (suc v) (omega (arith, lt));
    } in
    let cons : Addr → Label → List (Addr × Label) → List (Addr × Label) = λ a l rows. (a, l) ∷ rows in
    ap (λ o. option_to_list (row_for node.0 o) ++ rows_of nodes (labels_of rows))
    (known_some row.1 (all 0 row (omega arith)))
    ∙ ap (λ a. cons a row.1 (rows_of nodes (labels_of rows))) (sym (placed.each 0 (omega arith)))
    ∙ ap (cons row.0 row.1) (whole_rows nodes rows others (λ k d lt. all (suc k) d (omega (arith, lt))))

-- what holds of each row and of one more holds of all
pub more_rows : (P : ℕ → Addr × Label → Type 0) (rows : List (Addr × Label)) (n : ℕ) (row : Addr × Label) →
    length rows ≡ n → ((v : ℕ) → v < n → P v (get_or rows v no_row)) → P n row → (v : ℕ) → v < n + 1 →
    P v (get_or (rows ++ row ∷ []) v no_row)
more_rows P rows n row count old here v lt = elim (cases_lt v n) [
  | inl before ↦ subst (P v) (sym (get_or_append_left rows (row ∷ []) no_row v (omega (arith, before, count))))
      (old v before)
  | inr after ↦
      let at : n ≡ v = omega (arith, after, lt) in
      subst (λ k. P k (get_or (rows ++ row ∷ []) k no_row)) at
      (subst (P n) (sym (get_or_push rows row no_row n count)) here)
]

-- the labels of rows and one more
pub labels_of_more : (rows : List (Addr × Label)) (row : Addr × Label) → labels_of (rows ++ row ∷ []) ≡ labels_of rows
    ++ known row.1 ∷ []
labels_of_more rows row = map-append (λ r. known r.1) rows (row ∷ [])
