-- What a write to a sorted vector says of the map that it is seen as.
use Rattle.std.proofs.Common.{◌≡◌, List, [], Option, Some, None, Result, Ok, Err, IfOk, IfErr, OnOk, OnErr, IsTrue, refl, sym, ap, ◌∙◌}
use Rattle.std.specs.FinMap as map
use Rattle.std.specs.FinMap.Entries.{put, find, is_sorted}
use Rattle.net_prefix.specs.Prefix.{Prefix, prefix_cmp}
use Rattle.net_prefix.specs.Orders.{prefix_total, prefix_exact}
use Rattle.prefix_table.specs.Tables.{Table, adjusted, adjusted_by}
use Rattle.prefix_table.specs.Places.{changed}
use Rattle.prefix_table.proofs.Entries.{sorted-put, put_of, get_of}

module _ {V A F : Type 0} (o : Result A F) (q : Prefix) (es : List (Prefix × V))
    (t : IsTrue (is_sorted prefix_cmp es)) where
  pub sorted_kept : (v : V) (es' : List (Prefix × V)) → OnOk o (es' ≡ put prefix_cmp q v es) → OnErr o (es' ≡ es) →
      IsTrue (is_sorted prefix_cmp es')
  sorted_kept v es' ok err = elim o as (λ x. OnOk x (es' ≡ put prefix_cmp q v es) → OnErr x (es' ≡ es) →
      IsTrue (is_sorted prefix_cmp es')) [
        | Ok x ↦ λ ok err. ap (is_sorted prefix_cmp) ok ∙ sorted-put q v es t
        | Err x ↦ λ ok err. ap (is_sorted prefix_cmp) err ∙ t
      ] ok err

  pub seen_new : (v : V) (es' : List (Prefix × V)) (m : Table V) → map.from_sorted es ≡ m →
      OnOk o (es' ≡ put prefix_cmp q v es) → IfOk o (λ _. map.from_sorted es' ≡ map.insert m q v)
  seen_new v es' m is ok = elim o as (λ x. OnOk x (es' ≡ put prefix_cmp q v es) →
      IfOk x (λ _. map.from_sorted es' ≡ map.insert m q v)) [
        | Ok x ↦ λ ok. ap map.from_sorted ok ∙ put_of es q v t ∙ ap (λ n. map.insert n q v) is
        | Err x ↦ λ ok. tt
      ] ok

  pub seen_none : (m : Table V) → map.from_sorted es ≡ m → OnErr o (find prefix_cmp q es ≡ None) →
      IfErr o (λ _. map.get m q ≡ None)
  seen_none m is err = elim o as (λ x. OnErr x (find prefix_cmp q es ≡ None) → IfErr x (λ _. map.get m q ≡ None)) [
    | Ok x ↦ λ err. tt
    | Err x ↦ λ err. ap (λ n. map.get n q) (sym is) ∙ get_of es q t ∙ err
  ] err

pub seen_before : {V F : Type 0} (o : Result (Option V) F) (q : Prefix) (es : List (Prefix × V)) (m : Table V) →
    IsTrue (is_sorted prefix_cmp es) → map.from_sorted es ≡ m
    → IfOk o (λ b. b ≡ find prefix_cmp q es) → IfOk o (λ b. b ≡ map.get m q)
seen_before (Ok x) q es m t is ok = ok ∙ sym (get_of es q t) ∙ ap (λ n. map.get n q) is
seen_before (Err x) q es m t is ok = tt

pub seen_old : {V F : Type 0} (o : Result V F) (q : Prefix) (es : List (Prefix × V)) (m : Table V) →
    IsTrue (is_sorted prefix_cmp es) → map.from_sorted es ≡ m
    → IfOk o (λ b. find prefix_cmp q es ≡ Some b) → IfOk o (λ b. map.get m q ≡ Some b)
seen_old (Ok x) q es m t is ok = ap (λ n. map.get n q) (sym is) ∙ get_of es q t ∙ ok
seen_old (Err x) q es m t is ok = tt

pub none_seen : {V : Type 0} → ◌≡◌ {A = Table V} (map.from_sorted []) map.empty
none_seen = map.same_map prefix_total prefix_exact _ _ (λ q. map.get-from_sorted prefix_cmp [] q tt
    ∙ sym (map.get-empty prefix_cmp q))

-- what a value that is changed where it stands says of the map
module _ {V : Type 0} (f : V → V) (q : Prefix) (es : List (Prefix × V)) (t : IsTrue (is_sorted prefix_cmp es)) where
  pub changed_kept : (o : Option V) → IsTrue (is_sorted prefix_cmp (changed f q es o))
  changed_kept None = t
  changed_kept (Some v) = sorted-put q (f v) es t

  changed_by : (o : Option V) → map.from_sorted (changed f q es o) ≡ adjusted_by f q (map.from_sorted es) o
  changed_by None = refl
  changed_by (Some v) = put_of es q (f v) t

  pub seen_changed : map.from_sorted (changed f q es (find prefix_cmp q es)) ≡ adjusted f q (map.from_sorted es)
  seen_changed = changed_by (find prefix_cmp q es) ∙ ap (adjusted_by f q (map.from_sorted es)) (sym (get_of es q t))
