-- What is known of the NEXT_HOPs of some routes (RFC 4271, 5.1.3).
use Rattle.std.specs.Prelude.{◌≡◌, List, [], ◌∷◌, All, Some, ⊤, if◌then◌else◌}
use Rattle.std.specs.FinMap as finite
use Rattle.net_prefix.specs.declared.addr.Addr.{Addr}
use Rattle.net_prefix.specs.Address.{same_addr}
use Rattle.path_attr.specs.declared.attr.Attr.{Attr}
use Rattle.net_prefix.specs.Prefix.{Prefix}
use Rattle.prefix_table.specs.Tables.{Table}
use Rattle.cell_engine.specs.Cells.{Cell}
use Rattle.cell_engine.specs.declared.hop_table.hops.Hops.{Hops}
use Rattle.cell_engine.specs.declared.hop_table.hops.Hops.TheVariants.{Nothing, Only, Several}

-- the routes have these NEXT_HOPs
abbrev pub Have : Hops → List (Addr × Attr) → Type 0
Have Nothing routes = routes ≡ []
Have (Only a) routes = All (λ e. e.1.next ≡ a) routes
Have Several routes = ⊤

-- and so have those of each cell
abbrev pub AreKnown : Hops → Table Cell → Type 0
AreKnown known t = (p : Prefix) (h : Cell) → finite.get t p ≡ Some h → Have known h.received

-- what is known once there is a route with this NEXT_HOP besides
abbrev pub with_hop : Hops → Addr → Hops
with_hop Nothing a = Only a
with_hop (Only b) a = if same_addr b a then Only b else Several
with_hop Several a = Several

-- what is known once there are these routes besides
abbrev pub with_hops : Hops → List (Addr × Attr) → Hops
with_hops known [] = known
with_hops known (e ∷ routes) = with_hops (with_hop known e.1.next) routes
