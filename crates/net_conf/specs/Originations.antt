-- Originated prefixes, each router's by themselves. No public contract cites this file; the model of the table does.
use Rattle.std.specs.Prelude.{List, [], map}
use Rattle.std.specs.List.{flat_map}
use Rattle.std.specs.Map.{lookup}
use Rattle.std.specs.Option.{unwrap_or}
use Rattle.std.specs.BTreeMap.{is_at}
use Rattle.net_prefix.specs.declared.addr.Addr.{Addr}
use Rattle.net_prefix.specs.Address.{addr_cmp}
use Rattle.net_prefix.specs.Prefix.{Prefix}
use Rattle.net_conf.specs.declared.tables.Origination.{Origination}

-- what the router originates, of its prefixes
abbrev pub originations_by : Addr → List Prefix → List Origination
originations_by r ps = map (λ p. record { router = r; prefix = p }) ps

-- what all originate: by router, then by prefix
abbrev pub originations_in : List (Addr × List Prefix) → List Origination
originations_in routers = flat_map (λ e. originations_by e.0 e.1) routers

-- the prefixes of the router, none where it originates nothing
abbrev pub prefixes_at : List (Addr × List Prefix) → Addr → List Prefix
prefixes_at routers r = unwrap_or (lookup (is_at (addr_cmp r)) routers) []
