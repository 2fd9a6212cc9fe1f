-- A lone route whose interior cost becomes another, and nothing else (RFC 4271, 9.1.2.2 e).
use Rattle.std.specs.Prelude.{ℕ, List, [], ◌∷◌}
use Rattle.std.specs.FinMap as map
use Rattle.route_select.specs.declared.candidate.Source.{Source}
use Rattle.route_select.specs.declared.candidate.Standing.{Standing}
use Rattle.route_select.specs.declared.candidate.Standing.TheVariants.{Excluded, Considered}
use Rattle.route_select.specs.Selection.{Standings, source_cmp}

-- the route, at this cost to its NEXT_HOP
abbrev pub with_cost : ℕ → Standing → Standing
with_cost k (Considered c) = Considered (record c { cost = k })
with_cost k (Excluded reason) = Excluded reason

-- what is known, of which these are the entries
abbrev pub lone_at_cost : ℕ → map.FinMap source_cmp Standing → List (Source × Standing) → map.FinMap source_cmp Standing
lone_at_cost k known (e ∷ []) = map.insert known e.0 (with_cost k e.1)
lone_at_cost k known _ = known

-- where one source alone is known, its route at this cost; else what stands
abbrev pub at_cost : ℕ → Standings → Standings
at_cost k standings = record standings { known = lone_at_cost k standings.known (map.entries standings.known) }
