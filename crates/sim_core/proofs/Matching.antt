-- A search for the longest match in a router's table that goes on to shorter ones where nothing is chosen.
use Rattle.std.proofs.Common.{◌≡◌, ℕ, ◌+◌, ◌-◌, ◌<◌, false, Some, None, is_some, unwrap_or, sym, ap, subst, ◌∙◌, arith}
use Rattle.net_prefix.specs.declared.addr.Addr.{Addr}
use Rattle.net_prefix.specs.Prefix.{Prefix}
use Rattle.prefix_table.specs.Tables.{Table, IsLongestMatch, HasNoMatch}
use Rattle.net_conf.specs.Configuration.{is_virtual}
use Rattle.route_select.specs.declared.candidate.Candidate.{Candidate}
use Rattle.route_select.specs.Selection.{best_of}
use Rattle.reference_machine.specs.Decision.{best}
use Rattle.reference_machine.specs.Tracing.{longest_match}
use Rattle.cell_engine.specs.RouterTables.{table_at}
use Rattle.cell_engine.specs.Cells.{Cell, new_cell}
use Rattle.cell_engine.specs.State.{State, IsConsistent, network}
use Rattle.cell_engine.specs.Reporting.{AreOfPrefixes, NoneIsChosenFrom}
use Rattle.cell_engine.proofs.Decided.{best_in_cell}
use Rattle.cell_engine.proofs.Matches.{match_found, match_passed, match_missing, no_match_left}

module _ (e : State) (sound : IsConsistent e) (r d : Addr) (router : is_virtual e.conf r ≡ false)
    (blocks : AreOfPrefixes e.tables) (t : Table Cell) (here : t ≡ table_at r e.tables) (most : ℕ)
    (none : NoneIsChosenFrom (most + 1) r d e.tables) where
  -- where the table has no match, nothing is chosen
  pub ends_here : HasNoMatch t d most → longest_match (network e) r d ≡ None
  ends_here never = match_missing e sound r d router blocks (most + 1) none most (omega arith)
      (subst (λ t. HasNoMatch t d most) here never)

  module _ (p : Prefix) (h : Cell) (found : IsLongestMatch t d most p h) where
    in_table : IsLongestMatch (table_at r e.tables) d most p h
    in_table = subst (λ t. IsLongestMatch t d most p h) here found

    module _ (b : Candidate) (chosen : Some b ≡ best_of h.standings) where
      -- what is chosen for the match is what the router forwards by
      pub match_is : longest_match (network e) r d ≡ Some p
      match_is = match_found e sound r d router blocks (most + 1) none most (omega arith) p h in_table
          (ap is_some (sym chosen))

      pub best_is : best (network e) r p ≡ Some b
      best_is = best_in_cell e sound r p router ∙ ap (λ x. best_of (unwrap_or x new_cell).standings) in_table.value
          ∙ sym chosen

    module _ (unchosen : None ≡ best_of h.standings) where
      passed : NoneIsChosenFrom p.len r d e.tables
      passed = match_passed e sound r d router blocks (most + 1) none most (omega arith) p h in_table
          (ap is_some (sym unchosen))

      -- where nothing is, the search goes on
      pub goes_on : (len : ℕ) → len ≡ p.len → 0 < len → NoneIsChosenFrom (len - 1 + 1) r d e.tables
      goes_on len same some q long contains = passed q (omega (arith, same, some, long)) contains

      -- unless no length is left
      pub none_left : (len : ℕ) → len ≡ p.len → len ≡ 0 → longest_match (network e) r d ≡ None
      none_left len same zero =
          no_match_left e sound r d router blocks (λ q long contains. passed q (omega (arith, same, zero)) contains)
