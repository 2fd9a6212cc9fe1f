-- No public contract cites this file.
-- Where an address's entry, as a router's or a sender's, stands in a list in the order of the addresses, and where it
-- would go.
use Rattle.std.specs.Prelude.{◌≡◌, ℕ, ◌<◌, ◌≤◌, List, length, Some, None, slice_get}
use Rattle.std.proofs.Common.{set}
use Rattle.std.specs.List.{insert, remove}
use Rattle.std.specs.Map.{remove_entry}
use Rattle.std.specs.BTreeMap.{is_at}
use Rattle.std.specs.FinMap.Entries.{put, find}
use Rattle.net_prefix.specs.declared.addr.Addr.{Addr}
use Rattle.net_prefix.specs.Address.{addr_cmp}

-- the address's entry stands at this place
pub record IsAt {A : Type 0} (es : List (Addr × A)) (r : Addr) (place : ℕ) : Type 0 where
  pub in_range : place < length es
  pub written : (x : A) → set es place (r, x) ≡ put addr_cmp r x es
  pub value : (e : Addr × A) → slice_get es place ≡ Some e → find addr_cmp r es ≡ Some e.1
  pub key : (e : Addr × A) → slice_get es place ≡ Some e → e.0 ≡ r
  pub taken_out : remove es place ≡ remove_entry (is_at (addr_cmp r)) es

-- the address has no entry, and it would go to this place
pub record IsFor {A : Type 0} (es : List (Addr × A)) (r : Addr) (place : ℕ) : Type 0 where
  pub in_range : place ≤ length es
  pub added : (x : A) → insert es place (r, x) ≡ put addr_cmp r x es
  pub absent : find addr_cmp r es ≡ None
