use Rattle.std.proofs.Common.{◌≡◌, ℕ, ◌<◌, ◌≤◌, true, false, ltb, length, All, vec_len}
use Rattle.std.specs.Prelude.{slice_index_or}
use Rattle.std.specs.List.{AllWithin}
use Rattle.std.specs.List.Sorted.{IsPartitionPoint}
use Rattle.igp_cost.specs.declared.least_trees.link.Link.{Link}
use Rattle.igp_cost.proofs.least_trees.wiring.starts_of.Given as goal

abbrev pub invariant-loop-at : goal.invariant-loop-at
invariant-loop-at l = record {
  count : vec_len l.starts ≡ l.at;
  start : l.start ≤ length l.links;
  passed : AllWithin (λ (y : Link). ltb y.from l.at ≡ true) l.links 0 l.start;
  within : All (λ s. s ≤ length l.links) l.starts.items;
  parted : (v : ℕ) → v < l.at →
      IsPartitionPoint (λ (y : Link). ltb y.from v ≡ true) (λ (y : Link). ltb y.from v ≡ false) l.links
      (slice_index_or l.starts.items v 0);
}
