-- What an entry, or a key, that is put in changes.
use Rattle.std.proofs.Common.{◌≡◌, Bool, true, false, cond, ◌||◌, List, [], ◌∷◌, ◌++◌, Option, Some, None, refl, sym, ap, subst, ◌∙◌}
use Rattle.std.specs.declared.cmp.Ordering.{Ordering}
use Rattle.std.specs.declared.cmp.Ordering.TheVariants.{Less, Equal, Greater}
use Rattle.std.specs.Ordering.{match_ordering, is_eq}
use Rattle.std.specs.Cmp.{IsTotalOrder, tied_itself}
use Rattle.std.specs.List.{list_any}
use Rattle.std.specs.List.Sorted.{IsStrictlySortedBy}
use Rattle.std.specs.Map.{keys_of, lookup}
use Rattle.std.specs.BTreeMap.{insert_entry, is_at}
use Rattle.std.specs.BTreeSet.{insert_key}
use Rattle.std.proofs.lemmas.Option.{none-some, same_Some}
use Rattle.std.proofs.lemmas.Map.{lookup-none}
use Rattle.std.proofs.lemmas.Map.Entries.{none_below_head}
use Rattle.std.proofs.lemmas.Map.Lookups.{CmpEqualImpliesEq}
use Rattle.net_conf.proofs.KeptTrees.{equal_when}
use Rattle.net_conf.proofs.Unseen.{lookup_with}

or_again : (a b c : Bool) → a ≡ b → (b || c) ≡ (a || (b || c))
or_again true b c is = ap (λ x. x || c) (sym is)
or_again false b c is = refl

or_swap : (a b c : Bool) → (a || (b || c)) ≡ (b || (a || c))
or_swap true true c = refl
or_swap true false c = refl
or_swap false true c = refl
or_swap false false c = refl

-- entries of which one is, if any, between those in front and those behind; and new ones, with that one in its place
pub record IsSplit {K V : Type 0} (k : K) (v : V) (before : Option V) (es new : List (K × V)) : Type 0 where
  pub front : List (K × V)
  pub back : List (K × V)
  pub was : (before ≡ None → es ≡ front ++ back) × ((w : V) → before ≡ Some w → es ≡ front ++ (k, w) ∷ back)
  pub is : new ≡ front ++ (k, v) ∷ back

module _ {K : Type 0} (cmp : K → K → Ordering) (exact : CmpEqualImpliesEq cmp) (k : K) where
  -- whether any key passes
  pub any_key : (test : K → Bool) (ks : List K) → list_any test (insert_key cmp ks k) ≡ (test k || list_any test ks)
  any_key test [] = refl
  any_key test (x ∷ ks) = by (cmp k x) refl (any_key test ks)
    where
      by : (o : Ordering) → cmp k x ≡ o → list_any test (insert_key cmp ks k) ≡ (test k || list_any test ks) →
          list_any test (match_ordering o (k ∷ x ∷ ks) (x ∷ ks) (x ∷ insert_key cmp ks k))
          ≡ (test k || (test x || list_any test ks))
      by Less is rest = refl
      by Equal is rest = or_again (test k) (test x) (list_any test ks) (ap test (exact k x is))
      by Greater is rest = ap (λ b. test x || b) rest ∙ or_swap (test x) (test k) (list_any test ks)

  module _ {V : Type 0} (v : V) where
    pub any_entry : (test : K → Bool) (es : List (K × V)) → list_any (λ e. test e.0) (insert_entry cmp es k v)
        ≡ (test k || list_any (λ e. test e.0) es)
    any_entry test [] = refl
    any_entry test (e ∷ es) = by (cmp k e.0) refl (any_entry test es)
      where
        by : (o : Ordering) → cmp k e.0 ≡ o → list_any (λ x. test x.0) (insert_entry cmp es k v)
            ≡ (test k || list_any (λ x. test x.0) es) →
            list_any (λ x. test x.0) (match_ordering o ((k, v) ∷ e ∷ es) ((e.0, v) ∷ es) (e ∷ insert_entry cmp es k v))
            ≡ (test k || (test e.0 || list_any (λ x. test x.0) es))
        by Less is rest = refl
        by Equal is rest = or_again (test k) (test e.0) (list_any (λ x. test x.0) es) (ap test (exact k e.0 is))
        by Greater is rest = ap (λ b. test e.0 || b) rest ∙ or_swap (test e.0) (test k) (list_any (λ x. test x.0) es)

    module _ (total : IsTotalOrder cmp) where
      found_at_key : (es : List (K × V)) → lookup (is_at (cmp k)) (insert_entry cmp es k v) ≡ Some v
      found_at_key [] = ap (λ o. cond (is_eq o) (Some v) None) (tied_itself total k)
      found_at_key (e ∷ es) = by (cmp k e.0) refl (found_at_key es)
        where
          by : (o : Ordering) → cmp k e.0 ≡ o → lookup (is_at (cmp k)) (insert_entry cmp es k v) ≡ Some v →
              lookup (is_at (cmp k)) (match_ordering o ((k, v) ∷ e ∷ es) ((e.0, v) ∷ es) (e ∷ insert_entry cmp es k v))
              ≡ Some v
          by Less is rest = ap (λ o. cond (is_eq o) (Some v) (lookup (is_at (cmp k)) (e ∷ es))) (tied_itself total k)
          by Equal is rest = ap (λ o. cond (is_eq o) (Some v) (lookup (is_at (cmp k)) es)) is
          by Greater is rest = ap (λ o. cond (is_eq o) (Some e.1) (lookup (is_at (cmp k)) (insert_entry cmp es k v))) is
              ∙ rest

      -- what is found under any key
      pub found_in : (q : K) (es : List (K × V)) → lookup (is_at (cmp q)) (insert_entry cmp es k v)
          ≡ cond (is_at (cmp q) k) (Some v) (lookup (is_at (cmp q)) es)
      found_in q es = by (is_at (cmp q) k) refl
        where
          by : (b : Bool) → is_at (cmp q) k ≡ b → lookup (is_at (cmp q)) (insert_entry cmp es k v)
              ≡ cond b (Some v) (lookup (is_at (cmp q)) es)
          by true is = subst (λ x. lookup (is_at (cmp x)) (insert_entry cmp es k v) ≡ Some v)
              (sym (exact q k (equal_when (cmp q k) is))) (found_at_key es)
          by false is = lookup_with cmp exact (is_at (cmp q)) k is v es

      -- where the entry goes
      pub split : (es : List (K × V)) → IsStrictlySortedBy cmp (keys_of es) →
          IsSplit k v (lookup (is_at (cmp k)) es) es (insert_entry cmp es k v)
      unfolding IsStrictlySortedBy
      split [] sorted = record {
        front = [];
        back = [];
        was = (λ none. refl, λ w is. absurd (none-some w is));
        is = refl;
      }
      split (e ∷ es) sorted = by (cmp k e.0) refl (split es sorted.1)
        where
          absent : cmp k e.0 ≡ Less → lookup (is_at (cmp k)) es ≡ None
          absent is = sym (ap (λ o. cond (is_eq o) (Some e.1) (lookup (is_at (cmp k)) es)) is)
              ∙ lookup-none (is_at (cmp k)) (e ∷ es) (none_below_head total k e es sorted is)

          by : (o : Ordering) → cmp k e.0 ≡ o → IsSplit k v (lookup (is_at (cmp k)) es) es (insert_entry cmp es k v) →
              IsSplit k v (cond (is_eq o) (Some e.1) (lookup (is_at (cmp k)) es)) (e ∷ es)
              (match_ordering o ((k, v) ∷ e ∷ es) ((e.0, v) ∷ es) (e ∷ insert_entry cmp es k v))
          by Less is rest = record {
            front = [];
            back = e ∷ es;
            was = (λ none. refl, λ w there. absurd (none-some w (sym (absent is) ∙ there)));
            is = refl;
          }
          by Equal is rest = record {
            front = [];
            back = es;
            was = (
              λ none. absurd (none-some e.1 (sym none)),
              λ w there. let same : w ≡ e.1 =
                  same_Some w e.1 (sym there) in (λ i. (sym (exact k e.0 is) i, sym same i) ∷ es),
            );
            is = ap (λ x. (x, v) ∷ es) (sym (exact k e.0 is));
          }
          by Greater is rest = record {
            front = e ∷ rest.front;
            back = rest.back;
            was = (λ none. ap (λ xs. e ∷ xs) (rest.was.0 none), λ w there. ap (λ xs. e ∷ xs) (rest.was.1 w there));
            is = ap (λ xs. e ∷ xs) rest.is;
          }
