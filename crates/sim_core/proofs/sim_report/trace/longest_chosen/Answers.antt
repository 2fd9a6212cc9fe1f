use Rattle.std.proofs.Common.{◌≡◌, unwrap_or, sym, ap, arith}
use Rattle.std.specs.FinMap as finite
use Rattle.cell_engine.specs.RouterTables.{table_at}
use Rattle.cell_engine.proofs.Matches.{none_is_chosen_past, match_without_table}
use Rattle.sim_core.proofs.Matching.{ends_here, match_is, best_is, goes_on, none_left}
use Rattle.sim_core.proofs.sim_report.trace.longest_chosen.Goals as goal

pub returns-in_default-clause-none : goal.returns-in_default-clause-none
returns-in_default-clause-none g c =
    match_without_table c.args.state.now c.facts.ensures.sound c.args.router c.args.target c.requires
    c.facts.ensures.prefixes (sym c.in_default.ensures)

pub shorter-init : goal.shorter-init
shorter-init g c = none_is_chosen_past c.args.state.now c.facts.ensures.sound c.args.router c.args.target c.requires
    c.facts.ensures.prefixes

pub returns-in_default-longest-clause-none : goal.returns-in_default-longest-clause-none
returns-in_default-longest-clause-none g c =
    let t = g.T.PrefixTable.table c.in-Some.table.now in
    let here : t ≡ table_at c.args.router c.args.state.now.tables =
    ap (λ x. unwrap_or x finite.empty) c.in-Some.ensures in
    ends_here c.args.state.now c.facts.ensures.sound c.args.router c.args.target c.requires c.facts.ensures.prefixes t
    here c.shorter.most c.shorter.invariant c.in_default-longest.ensures.none

pub returns-in-Some-best-clause-found : goal.returns-in-Some-best-clause-found
returns-in-Some-best-clause-found g c =
    let t = g.T.PrefixTable.table c.in-Some.table.now in
    let here : t ≡ table_at c.args.router c.args.state.now.tables =
    ap (λ x. unwrap_or x finite.empty) c.in-Some.ensures in
    match_is c.args.state.now c.facts.ensures.sound c.args.router c.args.target c.requires c.facts.ensures.prefixes t
    here c.shorter.most c.shorter.invariant
    c.in-Some-longest.entry.0 c.in-Some-longest.entry.1.now c.in-Some-longest.ensures.found c.in-Some-best.best.now
    c.in-Some-best.ensures

pub returns-in-Some-best-clause-best : goal.returns-in-Some-best-clause-best
returns-in-Some-best-clause-best g c =
    let t = g.T.PrefixTable.table c.in-Some.table.now in
    let here : t ≡ table_at c.args.router c.args.state.now.tables =
    ap (λ x. unwrap_or x finite.empty) c.in-Some.ensures in
    best_is c.args.state.now c.facts.ensures.sound c.args.router c.args.target c.requires c.facts.ensures.prefixes t
    here c.shorter.most c.shorter.invariant
    c.in-Some-longest.entry.0 c.in-Some-longest.entry.1.now c.in-Some-longest.ensures.found c.in-Some-best.best.now
    c.in-Some-best.ensures

pub returns-then-len-eq0-clause-none : goal.returns-then-len-eq0-clause-none
returns-then-len-eq0-clause-none g c =
    let t = g.T.PrefixTable.table c.in-Some.table.now in
    let here : t ≡ table_at c.args.router c.args.state.now.tables =
    ap (λ x. unwrap_or x finite.empty) c.in-Some.ensures in
    let zero = c.if-len-eq0.true in
    none_left c.args.state.now c.facts.ensures.sound c.args.router c.args.target c.requires c.facts.ensures.prefixes t
    here c.shorter.most c.shorter.invariant
    c.in-Some-longest.entry.0 c.in-Some-longest.entry.1.now c.in-Some-longest.ensures.found c.in_default-best.ensures
    c.len-len.result c.len-len.ensures.value (omega (arith, zero))

pub shorter-preserved : goal.shorter-preserved
shorter-preserved g c =
    let t = g.T.PrefixTable.table c.in-Some.table.now in
    let here : t ≡ table_at c.args.router c.args.state.now.tables =
    ap (λ x. unwrap_or x finite.empty) c.in-Some.ensures in
    let some = c.if-len-eq0.false in
    goes_on c.args.state.now c.facts.ensures.sound c.args.router c.args.target c.requires c.facts.ensures.prefixes t
    here c.shorter.most c.shorter.invariant
    c.in-Some-longest.entry.0 c.in-Some-longest.entry.1.now c.in-Some-longest.ensures.found c.in_default-best.ensures
    c.len-len.result c.len-len.ensures.value (omega (arith, some))
