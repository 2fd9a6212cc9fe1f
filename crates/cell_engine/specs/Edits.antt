-- What the engine does with an edit, beside the network: what it plans before it changes anything, and the places that
-- it needs before it can change without memory.
use Rattle.std.specs.Prelude.{◌≡◌, ◌≤◌, ℕ, Bool, true, false, ◌||◌, List, map, filter, length, Option, Some, None, is_some}
use Rattle.net_conf.specs.declared.tables.Kind.{Kind}
use Rattle.net_conf.specs.declared.tables.Kind.TheVariants.{Router, Virtual}
use Rattle.net_prefix.specs.declared.addr.Addr.{Addr}
use Rattle.net_prefix.specs.Prefix.{Prefix}
use Rattle.net_conf.specs.RouterSites.{router_site}
use Rattle.net_conf.specs.declared.edit.Edit.{Edit}
use Rattle.net_conf.specs.declared.tables.Ends.{Ends}
use Rattle.net_conf.specs.Configuration.{Configuration}
use Rattle.net_conf.specs.Edits.{edited, refusal_of}
use Rattle.net_conf.specs.Scopes.{scope}
use Rattle.session_queue.specs.declared.direction.Direction.{Direction}
use Rattle.session_queue.specs.Waiting.{spare_at, same_direction}
use Rattle.cell_engine.specs.State.{State}
use Rattle.cell_engine.specs.Editing.{with_directions, with_origin, told_by_all}
use Rattle.prefix_table.specs.Tables.{Table}
use Rattle.cell_engine.specs.Cells.{Cell}
use Rattle.cell_engine.specs.Changes.{Change, changes_in}
use Rattle.cell_engine.specs.Admitting.{AreAllAdmitted}
use Rattle.cell_engine.specs.CellEdits.{CellEdit, edits_send, whole_changes}

-- what will be configured; the directions for that; and what is done to cells, with what each router sends for that
pub record Edited : Type 0 where
  pub conf : Configuration
  pub directions : List Direction
  pub edits : List CellEdit

-- the same with what comes of the cells
pub record Made : Type 0 where
  pub conf : Configuration
  pub directions : List Direction
  pub changes : List Change

-- what comes of a plan in these tables
abbrev pub made_in : List (Addr × Table Cell) → Edited → Made
made_in ts x = record { conf = x.conf; directions = x.directions; changes = whole_changes ts x.edits }

-- what the edit makes of an engine
abbrev pub planned : State → Edit → Made
planned e edit = record {
  conf = edited e.conf edit;
  directions = with_directions edit e.directions;
  changes = changes_in (scope edit) e.conf (edited e.conf edit) e.tables;
}

-- this is what the edit makes, which is not refused; and a router that is to originate a prefix has a cell of it
pub record IsMade (e : State) (edit : Edit) (x : Made) : Type 0 where
  pub allowed : refusal_of e.conf edit ≡ None
  pub origin : with_origin edit e.tables ≡ e.tables
  pub plan : x ≡ planned e edit

-- the plan is that of the edit
abbrev pub IsPlanned : State → Edit → Edited → Type 0
IsPlanned e edit x = IsMade e edit (made_in e.tables x)

-- the plan is that of an edit
pub record IsOfEdit (e : State) (x : Edited) : Type 0 where
  pub edit : Edit
  pub is : IsPlanned e edit x

-- each message that will be sent has a place in its queue, and is admitted
pub record HasPlaces (e : State) (x : Edited) : Type 0 where
  pub places : (f t : Addr) → length (told_by_all (edits_send x.edits) f t) ≤ spare_at e.queues f t
  pub admitted : AreAllAdmitted e.queues.admitted x.edits

-- the cells of routers among those that are decided anew: a virtual peer decides nothing
abbrev pub refreshed_by : Edited → List (Addr × Prefix)
refreshed_by x = map (λ y. (y.router, y.prefix)) (filter (λ y. is_some (router_site x.conf y.router)) x.edits)

-- what stands somewhere is a router
abbrev pub has_router_kind : Option (ℕ × Kind) → Bool
has_router_kind None = false
has_router_kind (Some (asn, Router)) = true
has_router_kind (Some (asn, Virtual)) = false

-- the session is that of the two, in either order
abbrev pub is_of : Addr → Addr → Ends → Bool
is_of f t e = same_direction e.low e.high f t || same_direction e.high e.low f t
