-- What holds of every configuration that edits lead to.
use Rattle.std.specs.Prelude.{◌≡◌, ◌<◌, true, All}
use Rattle.std.specs.Map.{keys_of}
use Rattle.std.specs.List.Sorted.{IsStrictlySortedBy}
use Rattle.net_prefix.specs.Address.{addr_cmp}
use Rattle.net_conf.specs.declared.tables.Ends.{Ends}
use Rattle.net_conf.specs.Configuration.{Configuration, has_node, ends_cmp, end_cmp, origination_cmp}

-- the lower end is below the higher: the two differ
abbrev pub AreApart : Ends → Type 0
AreApart e = e.low.0 < e.high.0

-- routers or peers stand at both ends
abbrev pub HasEnds : Configuration → Ends → Type 0
HasEnds c e = (has_node c e.low ≡ true) × (has_node c e.high ≡ true)

-- each table is in the order of its keys, each key once
pub record IsInOrder (c : Configuration) : Type 0 where
  pub nodes : IsStrictlySortedBy addr_cmp (keys_of c.nodes)
  pub links : IsStrictlySortedBy ends_cmp (keys_of c.links)
  pub sessions : IsStrictlySortedBy ends_cmp (keys_of c.sessions)
  pub clients : IsStrictlySortedBy end_cmp c.clients
  pub own_next : IsStrictlySortedBy end_cmp c.own_next
  pub imports : IsStrictlySortedBy end_cmp (keys_of c.imports)
  pub exports : IsStrictlySortedBy end_cmp (keys_of c.exports)
  pub clusters : IsStrictlySortedBy addr_cmp (keys_of c.clusters)
  pub med_always : IsStrictlySortedBy addr_cmp c.med_always
  pub origins : IsStrictlySortedBy origination_cmp c.origins

-- links and sessions are between two that are there, and that differ
pub record IsConfigured (c : Configuration) : Type 0 where
  pub ordered : IsInOrder c
  pub links_apart : All AreApart (keys_of c.links)
  pub sessions_apart : All AreApart (keys_of c.sessions)
  pub link_ends : All (HasEnds c) (keys_of c.links)
  pub session_ends : All (HasEnds c) (keys_of c.sessions)
