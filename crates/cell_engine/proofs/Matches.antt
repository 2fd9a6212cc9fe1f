-- The longest match of a router, found by asking its table for matches that are shorter and shorter until one has a
-- choice.
use Rattle.std.proofs.Common.{◌≡◌, ◌⊎◌, inl, inr, ℕ, ◌+◌, ◌<◌, ◌≤◌, Bool, true, false, cond, List, [], Option, Some, None, option_map, is_some, unwrap_or, refl, sym, ap, subst, ◌∙◌, arith}
use Rattle.std.proofs.lemmas.Bool.{true≢false}
use Rattle.std.proofs.Math.Nat.{lt_of_not-le}
use Rattle.std.specs.FinMap as finite
use Rattle.std.specs.FinMap.Entries as entries
use Rattle.std.specs.Ordering.{eq_by_cmp}
use Rattle.net_prefix.specs.declared.addr.Addr.{Addr}
use Rattle.net_prefix.specs.declared.prefix.TheConstants.{MAX_LEN}
use Rattle.net_prefix.specs.Address.{addr_cmp}
use Rattle.net_prefix.specs.Prefix.{Prefix, MakePrefix, Contains, prefix_cmp}
use Rattle.net_prefix.specs.Orders.{prefix_exact}
use Rattle.net_conf.specs.Configuration.{Configuration, is_virtual}
use Rattle.prefix_table.specs.Tables.{Table, IsLongestMatch, HasNoMatch, Matches, IsMatch as IsKeyMatch}
use Rattle.prefix_table.proofs.Lengths.{match_is_prefix_around}
use Rattle.prefix_table.specs.Places.{prefix_around}
use Rattle.reference_machine.specs.Decision.{best}
use Rattle.reference_machine.specs.Tracing.{longest_match, IsMatch, IsLongestMatch as IsLongestChosen}
use Rattle.reference_machine.proofs.Matches.{longest_match_law}
use Rattle.cell_engine.specs.RouterTables.{table_at, value_at, with_value}
use Rattle.cell_engine.specs.Cells.{Cell, new_cell}
use Rattle.cell_engine.specs.State.{State, IsConsistent, cell_at, network}
use Rattle.cell_engine.specs.Keeping.{kept_cell, kept_tables}
use Rattle.cell_engine.specs.Reporting.{has_choice, AreOfPrefixes, NoneIsChosenFrom}
use Rattle.cell_engine.proofs.Decided.{best_in_cell, none_best, value_with_cell}
use Rattle.cell_engine.proofs.Kept.{value_kept}
use Rattle.cell_engine.proofs.Picks.{is_equal}
use Rattle.cell_engine.proofs.Reports.{not_true}

-- two matches of one length are one
one_of_length : (d : Addr) (m n : ℕ) (p q : Prefix) → Matches d m p → Matches d n q → p.len ≡ q.len → p ≡ q
one_of_length d m n p q hp hq same = match_is_prefix_around d m p hp ∙ ap (prefix_around d) same
    ∙ sym (match_is_prefix_around d n q hq)

-- where a route is chosen, there is a cell
cell_by : (x : Option Cell) → has_choice (unwrap_or x new_cell) ≡ true → is_some x ≡ true
cell_by None h = absurd (true≢false (sym h ∙ ap is_some none_best))
cell_by (Some x) h = refl

-- CELLS OF PREFIXES

-- no cell is for anything but a prefix where there is none
pub no_tables : AreOfPrefixes []
no_tables r p there = absurd (true≢false (sym there ∙ ap is_some (finite.get-empty prefix_cmp p)))

there_by : (here same : Bool) (h : Cell) (x : Option Cell) → is_some (cond here (cond same (Some h) x) x) ≡ true →
    (same ≡ true) ⊎ (is_some x ≡ true)
there_by true true h x there = inl refl
there_by true false h x there = inr there
there_by false same h x there = inr there

-- a cell for a prefix keeps that up
pub prefixes_with_cell : (r : Addr) (p : Prefix) (h : Cell) (ts : List (Addr × Table Cell)) → MakePrefix p.addr p.len →
    AreOfPrefixes ts → AreOfPrefixes (with_value r p h ts)
prefixes_with_cell r p h ts block blocks s q there =
    by (there_by (eq_by_cmp addr_cmp s r) (eq_by_cmp prefix_cmp q p) h (value_at s q ts)
    (sym (ap is_some (value_with_cell r p h ts s q)) ∙ there)) where
      by : (eq_by_cmp prefix_cmp q p ≡ true) ⊎ (is_some (value_at s q ts) ≡ true) → MakePrefix q.addr q.len
      by (inl same) = subst (λ x. MakePrefix x.addr x.len) (sym (prefix_exact q p (is_equal _ same))) block
      by (inr old) = blocks s q old

there_before : {A B : Type 0} (f : A → B) (x : Option A) → is_some (option_map f x) ≡ true → is_some x ≡ true
there_before f None there = there
there_before f (Some a) there = refl

-- and so does an edit
pub prefixes_kept : (c : Configuration) (ts : List (Addr × Table Cell)) → AreOfPrefixes ts →
    AreOfPrefixes (kept_tables c ts)
prefixes_kept c ts blocks r p there =
    blocks r p (there_before (kept_cell c r p) (value_at r p ts) (sym (ap is_some (value_kept c r p ts)) ∙ there))

-- MATCHES

module _ (e : State) (sound : IsConsistent e) (r d : Addr) (router : is_virtual e.conf r ≡ false)
    (blocks : AreOfPrefixes e.tables) where
  chosen_is : (p : Prefix) → is_some (best (network e) r p) ≡ has_choice (cell_at r p e.tables)
  chosen_is p = ap is_some (best_in_cell e sound r p router)

  -- a prefix with a choice that contains the address is a match of the table
  key_match : (most : ℕ) (p : Prefix) → p.len ≤ most → Contains p d → has_choice (cell_at r p e.tables) ≡ true →
      IsKeyMatch (table_at r e.tables) d most p
  key_match most p short contains chosen =
      let there : is_some (value_at r p e.tables) ≡ true = cell_by (value_at r p e.tables) chosen in
      ((blocks r p there, short, contains), there)

  choice_of : (p : Prefix) (h : Cell) → value_at r p e.tables ≡ Some h →
      has_choice (cell_at r p e.tables) ≡ has_choice h
  choice_of p h is = ap (λ x. has_choice (unwrap_or x new_cell)) is

  -- none is chosen for a prefix longer than there are
  pub none_is_chosen_past : NoneIsChosenFrom (MAX_LEN + 1) r d e.tables
  none_is_chosen_past p long contains =
      not_true (has_choice (cell_at r p e.tables)) (λ chosen. let block =
      blocks r p (cell_by (value_at r p e.tables) chosen) in omega (arith, block.0, long))

  -- where no prefix with a choice contains the address, there is no longest match
  no_match : ((p : Prefix) → Contains p d → has_choice (cell_at r p e.tables) ≡ true → ⊥) →
      longest_match (network e) r d ≡ None
  no_match never = by (longest_match (network e) r d) (longest_match_law (network e) r d) where
    by : (found : Option Prefix) → IsLongestChosen (network e) r d found → found ≡ None
    by None law = refl
    by (Some q) law = absurd (never q law.has.contains (sym (chosen_is q) ∙ law.has.chosen))

  -- so where the router has no table
  pub match_without_table : entries.find addr_cmp r e.tables ≡ None → longest_match (network e) r d ≡ None
  match_without_table none =
      no_match (λ q contains chosen. true≢false (sym (cell_by (value_at r q e.tables) chosen)
      ∙ ap is_some (ap (λ t. finite.get (unwrap_or t finite.empty) q) none ∙ finite.get-empty prefix_cmp q)))

  module _ (len : ℕ) (none : NoneIsChosenFrom len r d e.tables) where
    -- a prefix with a choice is shorter
    shorter : (p : Prefix) → Contains p d → has_choice (cell_at r p e.tables) ≡ true → p.len < len
    shorter p contains chosen = lt_of_not-le (λ long. true≢false (sym chosen ∙ none p long contains))

    module _ (most : ℕ) (next : len ≤ most + 1) where
      matched : (p : Prefix) → Contains p d → has_choice (cell_at r p e.tables) ≡ true →
          IsKeyMatch (table_at r e.tables) d most p
      matched p contains chosen = let short = shorter p contains chosen in
          key_match most p (omega (arith, short, next)) contains chosen

      -- the table's longest match with a choice is the longest that the router has chosen
      pub match_found : (p : Prefix) (h : Cell) → IsLongestMatch (table_at r e.tables) d most p h →
          has_choice h ≡ true → longest_match (network e) r d ≡ Some p
      match_found p h is chosen = by (longest_match (network e) r d) (longest_match_law (network e) r d) where
        here : IsMatch (network e) r d p
        here = record { contains = is.match.has.0.2; chosen = chosen_is p ∙ choice_of p h is.value ∙ chosen }

        by : (found : Option Prefix) → IsLongestChosen (network e) r d found → found ≡ Some p
        by None law = absurd (law p here)
        by (Some q) law =
            let key = matched q law.has.contains (sym (chosen_is q) ∙ law.has.chosen) in
            let no_longer = is.match.longest q key in
            let no_shorter = law.longest p here in
            ap (λ x. Some x) (one_of_length d most most q p key.0 is.match.has.0 (omega (arith, no_longer, no_shorter)))

      -- without a choice it is passed over, and so is its length
      pub match_passed : (p : Prefix) (h : Cell) → IsLongestMatch (table_at r e.tables) d most p h →
          has_choice h ≡ false → NoneIsChosenFrom p.len r d e.tables
      match_passed p h is unchosen q long contains =
          not_true (has_choice (cell_at r q e.tables)) (λ chosen.
          let key = matched q contains chosen in
          let no_longer = is.match.longest q key in
          let same = one_of_length d most most q p key.0 is.match.has.0 (omega (arith, no_longer, long)) in
          true≢false (sym chosen ∙ ap (λ x. has_choice (cell_at r x e.tables)) same
          ∙ choice_of p h is.value ∙ unchosen))

      -- and where the table has no match, there is none
      pub match_missing : HasNoMatch (table_at r e.tables) d most → longest_match (network e) r d ≡ None
      match_missing none_matches = no_match (λ q contains chosen. none_matches q (matched q contains chosen))

  -- nor is there one once every length has been passed over
  pub no_match_left : NoneIsChosenFrom 0 r d e.tables → longest_match (network e) r d ≡ None
  no_match_left none = no_match (λ q contains chosen. true≢false (sym chosen ∙ none q (omega arith) contains))
