-- What stays of a router's part of the configuration. No public contract cites this file.
use Rattle.std.specs.Prelude.{Bool, false, Option, Some}
use Rattle.std.specs.Cmp.Lexicographic.{pointwise}
use Rattle.net_prefix.specs.Prefix.{same_prefix}
use Rattle.net_conf.specs.declared.site.SiteConf.{SiteConf}
use Rattle.net_conf.specs.Facts.{same_facts}
use Rattle.cell_engine.specs.declared.route_cell.moves.Stays.{Stays}

-- the two originate the same prefixes
abbrev pub same_origins : SiteConf → SiteConf → Bool
same_origins s t = pointwise same_prefix s.origins t.origins

-- what stays between the two
abbrev pub stays_between : SiteConf → SiteConf → Stays
stays_between s t = record { facts = same_facts s t; origins = same_origins s t }

-- where a router stands before and after. Elsewhere nothing does
abbrev pub stays_of : Option SiteConf → Option SiteConf → Stays
stays_of (Some s) (Some t) = stays_between s t
stays_of _ _ = record { facts = false; origins = false }
