-- The peers of a router: in order, and those with which it has sessions.
use Rattle.std.proofs.Common.{◌≡◌, ℕ, ◌<◌, Bool, true, false, cond, ◌==◌, ◌&&◌, ◌||◌, nat_le, if◌then◌else◌, refl, ◌∙◌, arith}
use Rattle.std.specs.declared.cmp.Ordering.TheVariants.{Less}
use Rattle.std.specs.Ordering.{nat_cmp, ordering_then}
use Rattle.std.specs.Cmp.{both_tied, unsigned_ties}
use Rattle.std.specs.BTreeMap.{is_at}
use Rattle.std.specs.List.{AllByRecursion, list_any}
use Rattle.std.specs.List.Sorted.{IsStrictlySortedBy}
use Rattle.std.specs.Map.{keys_of}
use Rattle.std.proofs.lemmas.Bool.Decides.{nat_tests}
use Rattle.std.proofs.lemmas.List.Elements.{recursion_from_All}
use Rattle.net_prefix.specs.declared.addr.Addr.{Addr}
use Rattle.net_prefix.specs.Address.{same_addr, addr_cmp}
use Rattle.net_conf.specs.declared.tables.Ends.{Ends}
use Rattle.net_conf.specs.Configuration.{Configuration, ends_of, ends_cmp, is_end, has_session}
use Rattle.net_conf.specs.Sites.{peer_in, peers_of}
use Rattle.net_conf.specs.Configured.{AreApart, IsConfigured}
use Rattle.net_conf.proofs.Picked.{picked_in_order, any_picked}

-- two pairs in order that have a number in common: so are their other numbers
other_below : (a b c d r : ℕ) → a < b → c < d → (a == r || b == r) ≡ true → (c == r || d == r) ≡ true →
    ordering_then (nat_cmp a c) (nat_cmp b d) ≡ Less → nat_cmp (cond (a == r) b a) (cond (c == r) d c) ≡ Less
other_below a b c d r ab cd ar cr less = grind (arith, nat_tests)

-- a pair has both numbers where it is these two, the lower first
pair_with : (a b r t : ℕ) → a < b → ((a == r || b == r) && t == cond (a == r) b a)
    ≡ (cond (nat_le r t) r t == a && cond (nat_le r t) t r == b)
pair_with a b r t ab = grind (arith, nat_tests)

module _ (r : Addr) where
  peer_below : (x y : Ends) → AreApart x → AreApart y → is_end r x ≡ true → is_end r y ≡ true → ends_cmp x y ≡ Less →
      addr_cmp (peer_in r x) (peer_in r y) ≡ Less
  peer_below x y apart apart' is is' less =
      by (x.low.0 == r.0) (y.low.0 == r.0) (other_below x.low.0 x.high.0 y.low.0 y.high.0 r.0 apart apart' is is' less)
    where
      by : (t u : Bool) → nat_cmp (cond t x.high.0 x.low.0) (cond u y.high.0 y.low.0) ≡ Less →
          addr_cmp (if t then x.high else x.low) (if u then y.high else y.low) ≡ Less
      by true true h = h
      by true false h = h
      by false true h = h
      by false false h = h

  session_found : (t : Addr) (e : Ends) → AreApart e →
      (is_end r e && same_addr t (peer_in r e)) ≡ is_at (ends_cmp (ends_of r t)) e
  session_found t e apart =
      peer (e.low.0 == r.0) ∙ pair_with e.low.0 e.high.0 r.0 t.0 apart ∙ ends (nat_le r.0 t.0)
      ∙ both_tied _ _ _ _ (unsigned_ties (ends_of r t).low.0 e.low.0) (unsigned_ties (ends_of r t).high.0 e.high.0)
    where
      peer : (b : Bool) → (is_end r e && t.0 == (if b then e.high else e.low).0)
          ≡ (is_end r e && t.0 == cond b e.high.0 e.low.0)
      peer true = refl
      peer false = refl

      pair : Bool → Ends
      pair b = if b then record { low = r; high = t } else record { low = t; high = r }

      ends : (b : Bool) → (cond b r.0 t.0 == e.low.0 && cond b t.0 r.0 == e.high.0)
          ≡ ((pair b).low.0 == e.low.0 && (pair b).high.0 == e.high.0)
      ends true = refl
      ends false = refl

module _ (c : Configuration) (r : Addr) (holds : IsConfigured c) where
  abbrev apart : AllByRecursion AreApart (keys_of c.sessions)
  apart = recursion_from_All AreApart (keys_of c.sessions) holds.sessions_apart

  pub peers_in_order : IsStrictlySortedBy addr_cmp (peers_of c r)
  peers_in_order = picked_in_order ends_cmp addr_cmp AreApart (is_end r) (peer_in r)
      (peer_below r) c.sessions apart holds.ordered.sessions

  pub peer_of_session : (t : Addr) → list_any (same_addr t) (peers_of c r) ≡ has_session c r t
  peer_of_session t = any_picked AreApart (is_end r) (peer_in r) (same_addr t) (is_at (ends_cmp (ends_of r t)))
      (session_found r t) c.sessions apart
