-- What holds of the nine filters, whatever the routes and however MULTI_EXIT_DISC is compared.
use Rattle.std.specs.Prelude.{◌≡◌, [], ◌∷◌, Contains, Some, None}
use Rattle.route_select.specs.declared.candidate.Source.{Source}
use Rattle.route_select.specs.declared.candidate.Standing.{Standing}
use Rattle.route_select.specs.declared.candidate.Candidate.{Candidate}
use Rattle.route_select.specs.declared.filter.Filter.{Filter}
use Rattle.route_select.specs.Selection.{Standings, standing_from, IsFrom, considered, filters, left_by_all, best_of}

-- each route that is considered is its source's own
abbrev pub AreFromTheirSources : Standings → Type 0
AreFromTheirSources standings = (source : Source) (standing : Standing) →
    standing_from standings source ≡ Some standing → IsFrom source standing

-- then the best is the only route that the nine filters leave
abbrev pub OneIsLeft : Type 0
OneIsLeft = (standings : Standings) → AreFromTheirSources standings → (best : Candidate) →
    best_of standings ≡ Some best → left_by_all standings.med_always filters (considered standings) ≡ best ∷ []

-- there is no best just where no route is considered
abbrev pub NoneIsLeft : Type 0
NoneIsLeft = (standings : Standings) → (best_of standings ≡ None → considered standings ≡ [])
    × (considered standings ≡ [] → best_of standings ≡ None)

-- each filter is one of those that are applied
abbrev pub EachIsApplied : Type 0
EachIsApplied = (k : Filter) → Contains filters k
