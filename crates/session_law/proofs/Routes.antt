-- What a router has received, after a message and after an edit.
use Rattle.std.proofs.Common.{◌≡◌, Bool, true, false, cond, ◌&&◌, List, [], ◌∷◌, filter, Option, Some, None, refl, sym, ap, subst, ◌∙◌}
use Rattle.std.specs.List.{AllByRecursion}
use Rattle.std.specs.List.Sorted.{IsStrictlySortedBy}
use Rattle.std.specs.Ordering.{eq_by_cmp}
use Rattle.std.specs.Cmp.{IsEquivalence}
use Rattle.std.specs.Map.{keys_of}
use Rattle.std.specs.BTreeMap.{is_at}
use Rattle.std.proofs.lemmas.Bool.{and_parts}
use Rattle.std.proofs.lemmas.Cmp.{eq_by_cmp_equiv}
use Rattle.std.proofs.lemmas.Option.{none-some, same_Some}
use Rattle.std.proofs.lemmas.Map.{lookup-remove_entry}
use Rattle.std.proofs.lemmas.Map.Keys.{IsDistinct-from_sorted}
use Rattle.std.proofs.lemmas.Map.Entries.{lookup-filter-keys}
use Rattle.net_prefix.specs.declared.addr.Addr.{Addr}
use Rattle.net_prefix.specs.Address.{same_addr}
use Rattle.net_prefix.specs.Prefix.{Prefix, same_prefix}
use Rattle.path_attr.specs.declared.attr.Attr.{Attr}
use Rattle.session_queue.specs.declared.message.Message.{Message}
use Rattle.session_queue.specs.declared.message.Message.TheVariants.{Update, Withdraw}
use Rattle.session_queue.specs.declared.direction.Direction.{Direction}
use Rattle.net_conf.specs.Configuration.{Configuration}
use Rattle.net_conf.specs.Costs.{is_up}
use Rattle.reference_machine.specs.declared.rows.RouteKey.{RouteKey}
use Rattle.reference_machine.specs.Network.{route_cmp}
use Rattle.reference_machine.specs.Decision.{route_from}
use Rattle.reference_machine.specs.Machine.{received_after, is_kept}
use Rattle.session_law.specs.SessionLaw.{after_message}
use Rattle.reference_machine.proofs.Entries.{equal_from, ordered_inserted, ordered_removed, ordered_filtered, lookup_inserted}
use Rattle.session_law.proofs.Keys.{same_ends, route_tied, route_total, route_exact, same_addr_true}

-- what was received is in the order of its keys
abbrev pub AreOrdered : List (RouteKey × Attr) → Type 0
AreOrdered es = IsStrictlySortedBy route_cmp (keys_of es)

abbrev pub at_route : Addr → Prefix → Addr → RouteKey
at_route r p u = record { to = r; prefix = p; from = u }

route_laws : IsEquivalence (eq_by_cmp route_cmp)
route_laws = eq_by_cmp_equiv route_total

-- A MESSAGE

-- a message keeps the order
pub ordered_after : (d : Direction) (m : Message) (es : List (RouteKey × Attr)) → AreOrdered es →
    AreOrdered (received_after d m es)
ordered_after d (Update p attr) es h = ordered_inserted route_total (at_route d.to p d.from) attr es h
ordered_after d (Withdraw p) es h = ordered_removed route_total (is_at (route_cmp (at_route d.to p d.from))) es h

by_ends : {A : Type 0} (to block from : Bool) (x y : A) →
    cond (to && (block && from)) x y ≡ cond (from && to) (cond block x y) y
by_ends true true true x y = refl
by_ends true true false x y = refl
by_ends true false true x y = refl
by_ends true false false x y = refl
by_ends false true true x y = refl
by_ends false true false x y = refl
by_ends false false true x y = refl
by_ends false false false x y = refl

-- the key of the message, seen from the key that is looked up
seen : {A : Type 0} (d : Direction) (q p : Prefix) (r t : Addr) (x y : A) →
    cond (is_at (route_cmp (at_route t p r)) (at_route d.to q d.from)) x y
    ≡ cond (same_ends (record { from = r; to = t }) d) (cond (same_prefix p q) x y) y
seen d q p r t x y = ap (λ b. cond b x y) (sym (route_tied (at_route t p r) (at_route d.to q d.from)))
    ∙ by_ends (same_addr t d.to) (same_prefix p q) (same_addr r d.from) x y

either_way : (k l : RouteKey) → is_at (route_cmp k) l ≡ is_at (route_cmp l) k
either_way k l = route_laws.symm k l

one_key : (k x y : RouteKey) → is_at (route_cmp k) x ≡ true → is_at (route_cmp k) y ≡ eq_by_cmp route_cmp x y
one_key k x y h = route_laws.congr k x y h

-- a message changes what it says, over its own session, and nothing else
pub route_after : (d : Direction) (m : Message) (es : List (RouteKey × Attr)) → AreOrdered es →
    (r t : Addr) (p : Prefix) →
    route_from (received_after d m es) t p r ≡ cond (same_ends (record { from = r; to = t }) d)
    (after_message p (route_from es t p r) m) (route_from es t p r)
route_after d (Update q attr) es h r t p =
    lookup_inserted route_total (at_route t p r) (at_route d.to q d.from) attr es
    ∙ seen d q p r t (Some attr) (route_from es t p r)
route_after d (Withdraw q) es h r t p =
    let k = at_route d.to q d.from in
    lookup-remove_entry route_laws (is_at (route_cmp k)) (one_key k) (at_route t p r) es
    (IsDistinct-from_sorted route_cmp (keys_of es) h)
    ∙ ap (λ b. cond b None (route_from es t p r)) (either_way k (at_route t p r))
    ∙ seen d q p r t None (route_from es t p r)

-- AN EDIT

kept_at : (c : Configuration) (t r : Addr) (p : Prefix) (k : RouteKey) → is_at (route_cmp (at_route t p r)) k ≡ true →
    is_up c k.from k.to ≡ is_up c r t
kept_at c t r p k h =
    let parts = and_parts (same_addr t k.to) (same_prefix p k.prefix && same_addr r k.from)
    (route_tied (at_route t p r) k ∙ h) in
    let to = same_addr_true t k.to parts.0 in
    let from = same_addr_true r k.from (and_parts (same_prefix p k.prefix) (same_addr r k.from) parts.1).1 in
    λ i. is_up c (sym from i) (sym to i)

-- what was received over a session that is down is gone, and the rest stays
pub route_kept : (c : Configuration) (es : List (RouteKey × Attr)) (r t : Addr) (p : Prefix) →
    route_from (filter (is_kept c) es) t p r ≡ cond (is_up c r t) (route_from es t p r) None
route_kept c es r t p = lookup-filter-keys (is_at (route_cmp (at_route t p r))) (λ k. is_up c k.from k.to) (is_up c r t)
    (kept_at c t r p) es

pub ordered_kept : (c : Configuration) (es : List (RouteKey × Attr)) → AreOrdered es →
    AreOrdered (filter (is_kept c) es)
ordered_kept c es h = ordered_filtered route_total (is_kept c) es h

-- A LOOK-UP

module _ (P : RouteKey × Attr → Type 0) where
  looked_by : (b : Bool) (k : RouteKey) (e : RouteKey × Attr) (later : Option Attr) (attr : Attr) →
      is_at (route_cmp k) e.0 ≡ b → P e → (later ≡ Some attr → P (k, attr)) → cond b (Some e.1) later ≡ Some attr →
      P (k, attr)
  looked_by true k e later attr tied here there is =
      subst (λ x. P (k, x)) (same_Some e.1 attr is)
      (subst (λ x. P (x, e.1)) (sym (route_exact k e.0 (equal_from (route_cmp k e.0) tied))) here)
  looked_by false k e later attr tied here there is = there is

  -- what holds of all that was received holds of the route that is looked up
  pub looked_up : (r u : Addr) (p : Prefix) (attr : Attr) (es : List (RouteKey × Attr)) → AllByRecursion P es →
      route_from es r p u ≡ Some attr → P (at_route r p u, attr)
  looked_up r u p attr [] each is = absurd (none-some attr is)
  looked_up r u p attr (e ∷ es) each is = looked_by (is_at (route_cmp (at_route r p u)) e.0) (at_route r p u) e
      (route_from es r p u) attr refl each.0 (looked_up r u p attr es each.1) is
