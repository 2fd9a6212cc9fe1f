-- The key goes into its chunk, unless it is there.
use Rattle.std.proofs.Common.{◌≡◌, ◌∙◌, ◌+◌, ◌++◌, arith, length, sym, ap, subst}
use Rattle.std.specs.List.{list_all}
use Rattle.std.specs.List.Sorted.{IsStrictlySortedBy}
use Rattle.std.specs.BTreeSet.{insert_key}
use Rattle.shared_map.specs.Chunks.{keys_in, has_key}
use Rattle.shared_map.proofs.InOrder.{put_in_order, put_present}
use Rattle.shared_map.proofs.Splits.{put_in_one, len_with_others}
use Rattle.shared_map.proofs.chunked.ChunkedSet.insert.Goals as goal

pub invariant_of-self : goal.invariant_of-self
invariant_of-self g c =
    let cmp = g.K.Ord.cmp in
    let cs = c.as_slice.result.now in
    let before = c.split-parts.result.before.now in
    let chunk = c.split-parts.result.chunk.now in
    let after = c.split-parts.result.after.now in
    let split = c.split-parts.ensures in
    let new : c.deref.result.now ≡ insert_key cmp chunk c.args.key = c.deref.ensures.value ∙ c.in_ok-put_key.ensures.ok
    ∙ ap (λ ks. insert_key cmp ks c.args.key) c.in_ok-keys.ensures in
    let held : keys_in c.in_ok-of.field-0 ≡ keys_in before ++ c.deref.result.now ++ keys_in after =
    ap keys_in c.in_ok-of.ensures ∙ c.in_ok-chunks.ensures.keys in
    let all : keys_in c.in_ok-of.field-0 ≡ insert_key cmp (keys_in cs) c.args.key =
    held ∙ ap (λ ks. keys_in before ++ ks ++ keys_in after) new
    ∙ sym (put_in_one cmp cs c.args.key before chunk after split) in
    let sorted : IsStrictlySortedBy cmp (keys_in cs) =
    subst (λ x. IsStrictlySortedBy cmp (keys_in x)) (sym c.as_slice.ensures) c.self.invariant.1.1 in
    let were : c.self.inside.len ≡ length (keys_in cs) = c.self.invariant.0
    ∙ ap (λ x. length (keys_in x)) (sym c.as_slice.ensures) in
    let others : length c.put_key.new.keys.items ≡ length c.deref.result.now = ap length (sym c.deref.ensures.value) in
    let count : c.in_ok-len.len + length chunk ≡ length (keys_in cs) + length c.deref.result.now =
    omega (arith, c.in_ok-len.ensures, c.len.ensures, were, others) in (
      len_with_others cmp cs c.args.key before chunk after split c.in_ok-len.len c.deref.result.now count
          ∙ ap length (sym held),
      (
        ap (list_all has_key) c.in_ok-of.ensures ∙ c.in_ok-chunks.ensures.full,
        subst (IsStrictlySortedBy cmp) (sym all) (put_in_order cmp g.met.K.Ord.total c.args.key (keys_in cs) sorted),
      ),
    )

pub returns-then-contains-clause-ok : goal.returns-then-contains-clause-ok
returns-then-contains-clause-ok g c =
    let sorted = subst (IsStrictlySortedBy g.K.Ord.cmp) c.self.view_is c.self.invariant.1.1 in
    put_present g.K.Ord.cmp g.met.K.Ord.total c.args.key c.args.self.now sorted (sym c.contains.ensures
    ∙ c.if-contains.true)

pub returns-clause-ok : goal.returns-clause-ok
returns-clause-ok g c =
    let cmp = g.K.Ord.cmp in
    let split = c.split-parts.ensures in
    let new : c.deref.result.now ≡ insert_key cmp c.split-parts.result.chunk.now c.args.key = c.deref.ensures.value
    ∙ c.in_ok-put_key.ensures.ok ∙ ap (λ ks. insert_key cmp ks c.args.key) c.in_ok-keys.ensures in
    ap keys_in c.in_ok-of.ensures
    ∙ c.in_ok-chunks.ensures.keys
    ∙ ap (λ ks. keys_in c.split-parts.result.before.now ++ ks ++ keys_in c.split-parts.result.after.now) new
    ∙ sym (put_in_one cmp c.as_slice.result.now c.args.key c.split-parts.result.before.now
    c.split-parts.result.chunk.now c.split-parts.result.after.now split)
    ∙ ap (λ cs. insert_key cmp (keys_in cs) c.args.key) c.as_slice.ensures
    ∙ ap (λ ks. insert_key cmp ks c.args.key) c.self.view_is
