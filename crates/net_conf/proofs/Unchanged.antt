-- An edit that asks for what is so already changes nothing.
use Rattle.std.proofs.Common.{◌≡◌, Bool, true, false, not, cond, ◌||◌, List, [], ◌∷◌, Option, Some, None, IfSome, option_map, refl, sym, ap, ◌∙◌}
use Rattle.std.proofs.Math.Bool.{beq}
use Rattle.std.specs.declared.cmp.Ordering.{Ordering}
use Rattle.std.specs.declared.cmp.Ordering.TheVariants.{Less, Equal, Greater}
use Rattle.std.specs.Ordering.{match_ordering, is_eq}
use Rattle.std.specs.Cmp.{IsTotalOrder, booleans_Decides}
use Rattle.std.specs.Option.{unwrap_or}
use Rattle.std.specs.List.{list_any}
use Rattle.std.specs.List.Sorted.{IsStrictlySortedBy}
use Rattle.std.specs.Map.{keys_of, lookup}
use Rattle.std.specs.Set.{remove_key}
use Rattle.std.specs.BTreeMap.{insert_entry, is_at}
use Rattle.std.specs.BTreeSet.{insert_key}
use Rattle.std.proofs.lemmas.Bool.{true≢false}
use Rattle.std.proofs.lemmas.Cmp.{on_total, then_total}
use Rattle.std.proofs.lemmas.Option.{none-some, same_Some}
use Rattle.std.proofs.lemmas.Map.{lookup-none}
use Rattle.std.proofs.lemmas.Map.Entries.{none_below_head}
use Rattle.std.proofs.lemmas.Map.Lookups.{CmpEqualImpliesEq}
use Rattle.net_prefix.specs.declared.addr.Addr.{Addr}
use Rattle.net_prefix.specs.Address.{addr_cmp}
use Rattle.net_prefix.specs.Orders.{addr_exact, addr_total}
use Rattle.net_conf.specs.declared.tables.End.{End}
use Rattle.net_conf.specs.declared.tables.Link.{Link as TheLink}
use Rattle.net_conf.specs.declared.edit.Edit.{Edit}
use Rattle.net_conf.specs.declared.edit.Edit.TheVariants.{Fail, Mend, Stop, Start, Client, OwnNext, MedAlways}
use Rattle.net_conf.specs.Configuration.{Configuration, ends_of, ends_cmp, end_of, end_cmp, link_between, session_between}
use Rattle.net_conf.specs.Configured.{IsInOrder}
use Rattle.net_conf.specs.Edits.{with_link_changed, with_state, with_session, switched, router_switched, edited}
use Rattle.net_conf.specs.Kept.{has_setting}
use Rattle.net_conf.proofs.KeptTrees.{ends_exact, ends_total}
use Rattle.net_conf.proofs.OthersStay.{end_exact}
use Rattle.net_conf.proofs.SameKeys.{below_first}

-- a key that is there is not put in again
module _ {K : Type 0} (cmp : K → K → Ordering) (total : IsTotalOrder cmp) (exact : CmpEqualImpliesEq cmp) (k : K) where
  put_again : (ks : List K) → IsStrictlySortedBy cmp ks → list_any (is_at (cmp k)) ks ≡ true → insert_key cmp ks k ≡ ks
  unfolding IsStrictlySortedBy
  put_again [] sorted there = absurd (true≢false (sym there))
  put_again (x ∷ ks) sorted there = by (cmp k x) refl there (λ more. put_again ks sorted.1 more)
    where
      by : (o : Ordering) → cmp k x ≡ o → (is_eq o || list_any (is_at (cmp k)) ks) ≡ true →
          (list_any (is_at (cmp k)) ks ≡ true → insert_key cmp ks k ≡ ks) →
          match_ordering o (k ∷ x ∷ ks) (x ∷ ks) (x ∷ insert_key cmp ks k) ≡ x ∷ ks
      by Less is found rest = absurd (true≢false (sym there ∙ below_first cmp total exact k x ks is sorted))
      by Equal is found rest = refl
      by Greater is found rest = ap (λ xs. x ∷ xs) (rest found)

-- one that is not there is not taken out
left_alone : {K : Type 0} (test : K → Bool) (ks : List K) → list_any test ks ≡ false → remove_key test ks ≡ ks
left_alone test [] absent = refl
left_alone test (x ∷ ks) absent = by (test x) absent (λ more. left_alone test ks more)
  where
    by : (b : Bool) → (b || list_any test ks) ≡ false → (list_any test ks ≡ false → remove_key test ks ≡ ks) →
        cond b ks (x ∷ remove_key test ks) ≡ x ∷ ks
    by true is rest = absurd (true≢false is)
    by false is rest = ap (λ xs. x ∷ xs) (rest is)

module _ {K X : Type 0} (cmp : K → K → Ordering) (total : IsTotalOrder cmp) (exact : CmpEqualImpliesEq cmp)
    (k : K) (v : X) where
  -- an entry that is there is not put in again
  entry_again : (es : List (K × X)) → IsStrictlySortedBy cmp (keys_of es) → lookup (is_at (cmp k)) es ≡ Some v →
      insert_entry cmp es k v ≡ es
  unfolding IsStrictlySortedBy
  entry_again [] sorted there = absurd (none-some v there)
  entry_again (e ∷ es) sorted there = by (cmp k e.0) refl there (λ more. entry_again es sorted.1 more)
    where
      by : (o : Ordering) → cmp k e.0 ≡ o → cond (is_eq o) (Some e.1) (lookup (is_at (cmp k)) es) ≡ Some v →
          (lookup (is_at (cmp k)) es ≡ Some v → insert_entry cmp es k v ≡ es) →
          match_ordering o ((k, v) ∷ e ∷ es) ((e.0, v) ∷ es) (e ∷ insert_entry cmp es k v) ≡ e ∷ es
      by Less is found rest = absurd
          (none-some v (sym (lookup-none (is_at (cmp k)) (e ∷ es) (none_below_head total k e es sorted is)) ∙ there))
      by Equal is found rest = ap (λ x. (e.0, x) ∷ es) (same_Some v e.1 (sym found))
      by Greater is found rest = ap (λ xs. e ∷ xs) (rest found)

end_total : IsTotalOrder end_cmp
end_total = then_total (on_total (λ e. e.router) addr_total) (on_total (λ e. e.peer) addr_total)

router_again : (on : Bool) (a : Addr) (rs : List Addr) → IsStrictlySortedBy addr_cmp rs →
    beq (list_any (is_at (addr_cmp a)) rs) on ≡ true → router_switched on a rs ≡ rs
router_again true a rs sorted is = put_again addr_cmp addr_total addr_exact a rs sorted ((booleans_Decides _ true).0 is)
router_again false a rs sorted is = left_alone (is_at (addr_cmp a)) rs ((booleans_Decides _ false).0 is)

end_again : (on : Bool) (e : End) (es : List End) → IsStrictlySortedBy end_cmp es →
    beq (list_any (is_at (end_cmp e)) es) on ≡ true → switched on e es ≡ es
end_again true e es sorted is = put_again end_cmp end_total end_exact e es sorted ((booleans_Decides _ true).0 is)
end_again false e es sorted is = left_alone (is_at (end_cmp e)) es ((booleans_Decides _ false).0 is)

module _ (c : Configuration) (ordered : IsInOrder c) (a b : Addr) where
  -- a link that is up, or not, or is not there
  link_again : (up : Bool) (o : Option TheLink) → link_between c a b ≡ o → IfSome o (λ l. l.up ≡ up) →
      with_link_changed c a b (with_state up) o ≡ c
  link_again up None is so = refl
  link_again up (Some l) is so =
      ap (λ links. record c { links = links }) (entry_again ends_cmp ends_total ends_exact (ends_of a b)
      (record l { up = up }) c.links ordered.links (is ∙ ap (λ u. Some (record l { up = u })) so))

  session_again : (on : Bool) → session_between c a b ≡ Some on → with_session c a b on ≡ c
  session_again on is = ap (λ sessions. record c { sessions = sessions })
      (entry_again ends_cmp ends_total ends_exact (ends_of a b) on c.sessions ordered.sessions is)

not_true : (b : Bool) → not b ≡ true → b ≡ false
not_true true is = absurd (true≢false (sym is))
not_true false is = refl

up_then : (o : Option TheLink) → unwrap_or (option_map (λ (l : TheLink). l.up) o) false ≡ true →
    IfSome o (λ l. l.up ≡ true)
up_then None is = tt
up_then (Some l) is = is

down_then : (o : Option TheLink) → not (unwrap_or (option_map (λ (l : TheLink). l.up) o) false) ≡ true →
    IfSome o (λ l. l.up ≡ false)
down_then None is = tt
down_then (Some l) is = not_true l.up is

enabled_then : (o : Option Bool) → unwrap_or o false ≡ true → o ≡ Some true
enabled_then None is = absurd (true≢false (sym is))
enabled_then (Some on) is = ap Some is

disabled_then : (o : Option Bool) → not (unwrap_or o true) ≡ true → o ≡ Some false
disabled_then None is = absurd (true≢false (sym is))
disabled_then (Some on) is = ap Some (not_true on is)

pub unchanged : (c : Configuration) (e : Edit) → IsInOrder c → has_setting c e ≡ true → edited c e ≡ c
unchanged c (Fail a b) ordered is = link_again c ordered a b false (link_between c a b) refl
    (down_then (link_between c a b) is)
unchanged c (Mend a b) ordered is = link_again c ordered a b true (link_between c a b) refl
    (up_then (link_between c a b) is)
unchanged c (Stop a b) ordered is = session_again c ordered a b false (disabled_then (session_between c a b) is)
unchanged c (Start a b) ordered is = session_again c ordered a b true (enabled_then (session_between c a b) is)
unchanged c (Client a b on) ordered is =
    ap (λ es. record c { clients = es }) (end_again on (end_of a b) c.clients ordered.clients is)
unchanged c (OwnNext a b on) ordered is =
    ap (λ es. record c { own_next = es }) (end_again on (end_of a b) c.own_next ordered.own_next is)
unchanged c (MedAlways a on) ordered is =
    ap (λ rs. record c { med_always = rs }) (router_again on a c.med_always ordered.med_always is)
unchanged c _ ordered is = absurd (true≢false (sym is))
