-- Cells that an edit leaves as they are. No public contract cites this file.
use Rattle.std.specs.Prelude.{◌≡◌, Bool, true, false, ◌&&◌, List, [], Some, is_some}
use Rattle.std.specs.List.{AllByRecursion}
use Rattle.net_prefix.specs.declared.addr.Addr.{Addr}
use Rattle.net_prefix.specs.Address.{same_addr}
use Rattle.net_prefix.specs.Prefix.{Prefix, same_prefix}
use Rattle.net_conf.specs.Configuration.{Configuration}
use Rattle.net_conf.specs.declared.edit.Scope.{Scope}
use Rattle.net_conf.specs.declared.edit.Scope.TheVariants.{Network, Site, Route}
use Rattle.prefix_table.specs.Tables.{Table}
use Rattle.cell_engine.specs.RouterTables.{value_at}
use Rattle.cell_engine.specs.Cells.{Cell}
use Rattle.cell_engine.specs.Keeping.{kept_cell}
use Rattle.cell_engine.specs.Editing.{cell_sends}
use Rattle.cell_engine.specs.Changes.{Change, Choice}

-- it is the same when the configuration c becomes d, and nothing is sent
pub record IsSettled (c d : Configuration) (r : Addr) (p : Prefix) (h : Cell) : Type 0 where
  pub cell : kept_cell d r p h ≡ h
  pub silent : cell_sends c d r p h ≡ []

-- an edit of this scope can change the router's cell for the prefix
abbrev pub is_in : Scope → Addr → Prefix → Bool
is_in Network r p = true
is_in (Site a) r p = same_addr r a
is_in (Route a q) r p = same_addr r a && same_prefix p q

-- all cells that it cannot change are settled
abbrev pub AreSettledOutside : Scope → Configuration → Configuration → List (Addr × Table Cell) → Type 0
AreSettledOutside s c d ts = (r : Addr) (p : Prefix) (h : Cell) → value_at r p ts ≡ Some h → is_in s r p ≡ false →
    IsSettled c d r p h

-- and so are all that are not chosen
abbrev pub AreSettledBut : Choice → Configuration → Configuration → List (Addr × Table Cell) → Type 0
AreSettledBut holds c d ts = (r : Addr) (p : Prefix) (h : Cell) → value_at r p ts ≡ Some h → holds r p h ≡ false →
    IsSettled c d r p h

-- there is a cell for each of the changes
abbrev pub AreThere : List Change → List (Addr × Table Cell) → Type 0
AreThere xs ts = AllByRecursion (λ x. is_some (value_at x.router x.prefix ts) ≡ true) xs
