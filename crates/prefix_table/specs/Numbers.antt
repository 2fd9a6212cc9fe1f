-- No public contract cites this file.
-- Numbers of 32 bits that stand for an index, or for none.
use Rattle.std.specs.Prelude.{ℕ, ◌==◌, ◌+◌, ◌≤◌, cond, Option, Some, None, vec_len, vec_capacity}
use Rattle.std.specs.declared.vec.Vec.{Vec}
use Rattle.prefix_table.specs.declared.link.TheConstants.{NONE}
use Rattle.prefix_table.specs.declared.node.NodeId.{NodeId}

-- the index that a number stands for
abbrev pub index_of_number : ℕ → Option ℕ
index_of_number n = cond (n == NONE) None (Some n)

-- the node that a number stands for
abbrev pub node_of_number : ℕ → Option NodeId
node_of_number n = cond (n == NONE) None (Some (record { 0 = n }))

-- a vector has space for so many items more, and a number for each of them
pub record HasRoom {X Z : Type 0} (v : Vec X Z) (more : ℕ) : Type 0 where
  pub space : vec_len v + more ≤ vec_capacity v
  pub numbers : vec_len v + more ≤ NONE
