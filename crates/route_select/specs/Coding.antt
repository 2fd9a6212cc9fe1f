-- How the prover knows standings again (the Models that have them ask for it). No public contract cites this file.
use Rattle.std.specs.Prelude.{Bool, refl}
use Rattle.std.specs.Coded.{Coded, code_by, coded×, coded_bool}
use Rattle.std.specs.FinMap as map
use Rattle.route_select.specs.declared.candidate.Standing.{Standing}
use Rattle.route_select.specs.contracts.candidate.Source as source
use Rattle.route_select.specs.contracts.candidate.Standing as standing
use Rattle.route_select.specs.Selection.{Standings, source_cmp}

abbrev pub coded_standings : Coded Standings
coded_standings = code_by (map.FinMap source_cmp Standing × Bool)
    (coded× (map.code source.the_row.coded standing.the_row.coded) coded_bool) (λ s. (s.known, s.med_always))
    (λ p. record { known = p.0; med_always = p.1 }) (λ _. refl)
