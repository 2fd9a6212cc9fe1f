-- Where a missing prefix goes: below the closest node, before or beside what lies in that half.
use Rattle.std.proofs.Common.{◌≡◌, ◌≢◌, ℕ, ◌<◌, ◌≤◌, List, length, Some, None, refl, sym, ap, ◌∙◌, inl, inr, arith}
use Rattle.std.proofs.lemmas.Bool.{cases_lt}
use Rattle.net_prefix.specs.Prefix.{Prefix, MakePrefix, Covers}
use Rattle.prefix_table.specs.declared.node.Node.{Node}
use Rattle.prefix_table.specs.declared.node.NodeId.{NodeId}
use Rattle.prefix_table.specs.Places.{prefix_around}
use Rattle.prefix_table.specs.Trie.{bit_at, IsUnder, prefix_at, child_at, IsTrie, IsClosest, IsGap, IsLeafOf}
use Rattle.prefix_table.proofs.Prefixes.{covers_itself, covers_trans, comparable, same_bit, under_further, under_back, prefix_around_covers}
use Rattle.prefix_table.proofs.Lengths.{prefix_around_matches}

back : (p q : Prefix) → Covers p q → q.len ≤ p.len → Covers q p
back p q h le = comparable q p q (covers_itself q) h le

module _ (ns : List Node) (t : IsTrie ns) (at : ℕ) (q : Prefix) (block : MakePrefix q.addr q.len)
    (near : IsClosest ns q at) (lt : (prefix_at ns at).len < q.len) where
  leaf_under : IsUnder (prefix_at ns at) (bit_at q.addr (prefix_at ns at).len) q
  leaf_under = record { longer = lt; covers = near.covers; half = refl }

  pub gap_empty : child_at ns (bit_at q.addr (prefix_at ns at).len) at ≡ None →
      IsGap ns (prefix_at ns at) (bit_at q.addr (prefix_at ns at).len) q
  gap_empty none = record {
    block = block;
    under = leaf_under;
    covers = λ j in_range h. absurd (t.empty at j _ near.in_range in_range none h);
  }

  module _ (k : NodeId) (is : child_at ns (bit_at q.addr (prefix_at ns at).len) at ≡ Some k) where
    not_over : Covers (prefix_at ns k.0) q → ⊥
    not_over h =
        let below = t.below at _ k near.in_range is in
        omega (arith, below.under.longer, near.last k.0 below.in_range h)

    pub child_in_range : k.0 < length ns
    child_in_range = (t.below at _ k near.in_range is).in_range

    pub shares : Covers (prefix_around q.addr (prefix_at ns at).len) (prefix_at ns k.0)
    shares =
        let below = t.below at _ k near.in_range is in
        prefix_around_covers q.addr (prefix_at ns at).len (prefix_at ns k.0) (omega (arith, below.under.longer))
        (below.under.covers.1 ∙ sym near.covers.1)

    pub gap_over : Covers q (prefix_at ns k.0) → IsGap ns (prefix_at ns at) (bit_at q.addr (prefix_at ns at).len) q
    gap_over over = record {
      block = block;
      under = leaf_under;
      covers = λ j in_range h.
          let below = t.below at _ k near.in_range is in
          let covers : Covers q (prefix_at ns j) = covers_trans q (prefix_at ns k.0) (prefix_at ns j) over
          (below.covers j in_range h) in (
            covers,
            elim (cases_lt q.len (prefix_at ns j).len) as (λ _. q.len < (prefix_at ns j).len) [
              | inl less ↦ less
              | inr le ↦ absurd (omega (arith, h.longer, near.last j in_range (back q (prefix_at ns j) covers le)))
            ],
          );
    }

    module _ (len : ℕ) (long : (prefix_at ns at).len ≤ len) (short : len < q.len)
        (both : Covers (prefix_around q.addr len) (prefix_at ns k.0))
        (differ : len < (prefix_at ns k.0).len → bit_at q.addr len ≢ bit_at (prefix_at ns k.0).addr len) where
      covers_leaf : Covers (prefix_around q.addr len) q
      covers_leaf = prefix_around_covers q.addr len q (omega arith) refl

      shorter : len < (prefix_at ns k.0).len
      shorter = elim (cases_lt len (prefix_at ns k.0).len) as (λ _. len < (prefix_at ns k.0).len) [
        | inl less ↦ less
        | inr le ↦ absurd (not_over (covers_trans (prefix_at ns k.0) (prefix_around q.addr len) q
            (back (prefix_around q.addr len) (prefix_at ns k.0) both le) covers_leaf))
      ]

      further : (prefix_at ns at).len < len
      further = elim (cases_lt (prefix_at ns at).len len) as (λ _. (prefix_at ns at).len < len) [
        | inl less ↦ less
        | inr le ↦
            let same : len ≡ (prefix_at ns at).len = omega arith in
            let below = t.below at _ k near.in_range is in
            absurd (differ shorter (ap (bit_at q.addr) same ∙ sym below.under.half
            ∙ ap (bit_at (prefix_at ns k.0).addr) (sym same)))
      ]

      branch_under : IsUnder (prefix_at ns at) (bit_at q.addr (prefix_at ns at).len) (prefix_around q.addr len)
      branch_under = under_back (prefix_at ns at) _ (prefix_around q.addr len) q leaf_under covers_leaf further

      pub gap_fork : IsGap ns (prefix_at ns at) (bit_at q.addr (prefix_at ns at).len) (prefix_around q.addr len)
      gap_fork = record {
        block = (prefix_around_matches q.addr len len (omega (arith, block.0)) (omega arith)).0;
        under = branch_under;
        covers = λ j in_range h.
            let below = t.below at _ k near.in_range is in
            let over = below.covers j in_range h in (
              covers_trans (prefix_around q.addr len) (prefix_at ns k.0) (prefix_at ns j) both over,
              omega (arith, shorter, over.0),
            );
      }

      pub leaf_of : IsLeafOf ns (prefix_around q.addr len) q
      leaf_of = record {
        block = block;
        under = record { longer = short; covers = covers_leaf; half = refl };
        none = λ j in_range h.
            let below = t.below at _ k near.in_range is in
            let over = below.covers j in_range (under_further (prefix_at ns at) _ (prefix_around q.addr len)
            (prefix_at ns j) branch_under h.covers) in
            differ shorter (sym h.half ∙ same_bit (prefix_at ns k.0) (prefix_at ns j) len over shorter);
      }
