-- The key is taken out of its chunk.
use Rattle.std.proofs.Common.{◌≡◌, ◌∙◌, ◌+◌, ◌++◌, arith, length, sym, ap, subst}
use Rattle.std.specs.List.{list_all}
use Rattle.std.specs.List.Sorted.{IsStrictlySortedBy}
use Rattle.std.specs.Set.{remove_key}
use Rattle.std.specs.BTreeMap.{is_at}
use Rattle.shared_map.specs.Chunks.{keys_in, has_key}
use Rattle.shared_map.proofs.InOrder.{left_in_order}
use Rattle.shared_map.proofs.Splits.{left_in_one, len_with_others}
use Rattle.shared_map.proofs.chunked.ChunkedSet.remove.Goals as goal

pub invariant_of-self : goal.invariant_of-self
invariant_of-self g c =
    let cmp = g.K.Ord.cmp in
    let cs = c.as_slice.result.now in
    let before = c.split-parts.result.before.now in
    let chunk = c.split-parts.result.chunk.now in
    let after = c.split-parts.result.after.now in
    let split = c.split-parts.ensures in
    let new : c.deref.result.now ≡ remove_key (is_at (cmp c.args.key.now)) chunk = c.deref.ensures.value
    ∙ c.take_key.ensures.keys ∙ ap (remove_key (is_at (cmp c.args.key.now))) c.in_ok-keys.ensures in
    let held : keys_in c.in_ok-of.field-0 ≡ keys_in before ++ c.deref.result.now ++ keys_in after =
    ap keys_in c.in_ok-of.ensures ∙ c.in_ok-chunks.ensures.keys in
    let all : keys_in c.in_ok-of.field-0 ≡ remove_key (is_at (cmp c.args.key.now)) (keys_in cs) =
    held ∙ ap (λ ks. keys_in before ++ ks ++ keys_in after) new
    ∙ sym (left_in_one cmp cs c.args.key.now before chunk after split) in
    let sorted : IsStrictlySortedBy cmp (keys_in cs) =
    subst (λ x. IsStrictlySortedBy cmp (keys_in x)) (sym c.as_slice.ensures) c.self.invariant.1.1 in
    let were : c.self.inside.len ≡ length (keys_in cs) = c.self.invariant.0
    ∙ ap (λ x. length (keys_in x)) (sym c.as_slice.ensures) in
    let others : length c.take_key.new.keys.items ≡ length c.deref.result.now = ap length (sym c.deref.ensures.value) in
    let count : c.in_ok-len.len + length chunk ≡ length (keys_in cs) + length c.deref.result.now =
    omega (arith, c.in_ok-len.ensures, c.len.ensures, were, others) in (
      len_with_others cmp cs c.args.key.now before chunk after split c.in_ok-len.len c.deref.result.now count
          ∙ ap length (sym held),
      (
        ap (list_all has_key) c.in_ok-of.ensures ∙ c.in_ok-chunks.ensures.full,
        subst (IsStrictlySortedBy cmp) (sym all) (left_in_order cmp (is_at (cmp c.args.key.now)) (keys_in cs) sorted),
      ),
    )

pub returns-clause-ok : goal.returns-clause-ok
returns-clause-ok g c =
    let cmp = g.K.Ord.cmp in
    let split = c.split-parts.ensures in
    let new : c.deref.result.now ≡ remove_key (is_at (cmp c.args.key.now)) c.split-parts.result.chunk.now =
    c.deref.ensures.value ∙ c.take_key.ensures.keys
    ∙ ap (remove_key (is_at (cmp c.args.key.now))) c.in_ok-keys.ensures in
    ap keys_in c.in_ok-of.ensures
    ∙ c.in_ok-chunks.ensures.keys
    ∙ ap (λ ks. keys_in c.split-parts.result.before.now ++ ks ++ keys_in c.split-parts.result.after.now) new
    ∙ sym (left_in_one cmp c.as_slice.result.now c.args.key.now c.split-parts.result.before.now
    c.split-parts.result.chunk.now c.split-parts.result.after.now split)
    ∙ ap (λ cs. remove_key (is_at (cmp c.args.key.now)) (keys_in cs)) c.as_slice.ensures
    ∙ ap (λ ks. remove_key (is_at (cmp c.args.key.now)) ks) c.self.view_is
