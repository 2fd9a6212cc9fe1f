-- What is known of more and more routes covers each of them.
use Rattle.std.proofs.Common.{◌≡◌, ℕ, zero, suc, ◌<◌, Bool, true, false, if◌then◌else◌, List, [], ◌∷◌, length, refl, sym, ap, arith}
use Rattle.std.specs.Prelude.{⊤}
use Rattle.std.specs.List.{slice_index_or}
use Rattle.std.specs.Cmp.{unsigned_Decides}
use Rattle.net_prefix.specs.declared.addr.Addr.{Addr}
use Rattle.net_prefix.specs.Address.{same_addr}
use Rattle.path_attr.specs.declared.attr.Attr.{Attr}
use Rattle.cell_engine.specs.declared.hop_table.hops.Hops.{Hops}
use Rattle.cell_engine.specs.declared.hop_table.hops.Hops.TheVariants.{Nothing, Only, Several}
use Rattle.cell_engine.specs.Hops.{Have, with_hop, with_hops}

addr_true : (a b : Addr) → same_addr a b ≡ true → a ≡ b
addr_true a b same = ap (λ n. record { 0 = n }) ((unsigned_Decides a.0 b.0).0 same)

-- a route may have this NEXT_HOP
abbrev May : Hops → Addr → Type 0
May Nothing a = ⊥
May (Only b) a = a ≡ b
May Several a = ⊤

hop_may : (k : Hops) (a : Addr) → May (with_hop k a) a
hop_may Nothing a = refl
hop_may (Only b) a =
    let by : (x : Bool) → same_addr b a ≡ x → May (if x then Only b else Several) a = elim [
      | true ↦ λ same. sym (addr_true b a same)
      | false ↦ λ other. tt
    ] in
    by (same_addr b a) refl
hop_may Several a = tt

hop_stays : (k : Hops) (a b : Addr) → May k a → May (with_hop k b) a
hop_stays Nothing a b may = absurd may
hop_stays (Only c) a b may =
    let by : (x : Bool) → May (if x then Only c else Several) a = elim [ true ↦ may | false ↦ tt ] in
    by (same_addr c b)
hop_stays Several a b may = tt

hops_stay : (k : Hops) (routes : List (Addr × Attr)) (a : Addr) → May k a → May (with_hops k routes) a
hops_stay k [] a may = may
hops_stay k (e ∷ routes) a may = hops_stay (with_hop k e.1.next) routes a (hop_stays k a e.1.next may)

each_may : (k : Hops) (routes : List (Addr × Attr)) (j : ℕ) (d : Addr × Attr) → j < length routes →
    May (with_hops k routes) (slice_index_or routes j d).1.next
each_may k [] j d within = absurd (omega arith)
each_may k (e ∷ routes) zero d within = hops_stay (with_hop k e.1.next) routes e.1.next (hop_may k e.1.next)
each_may k (e ∷ routes) (suc j) d within = each_may (with_hop k e.1.next) routes j d (omega arith)

have_of_may : (k : Hops) (routes : List (Addr × Attr)) →
    ((j : ℕ) (d : Addr × Attr) → j < length routes → May k (slice_index_or routes j d).1.next) → Have k routes
have_of_may Nothing [] each = refl
have_of_may Nothing (e ∷ routes) each = absurd (each 0 e (omega arith))
have_of_may (Only a) routes each = each
have_of_may Several routes each = tt

pub covered : (k : Hops) (routes : List (Addr × Attr)) → Have (with_hops k routes) routes
covered k routes = have_of_may (with_hops k routes) routes (each_may k routes)

hop_kept : (k : Hops) (a : Addr) (known : List (Addr × Attr)) → Have k known → Have (with_hop k a) known
hop_kept Nothing a [] have = λ j d within. absurd (omega arith)
hop_kept Nothing a (e ∷ known) have = cc
hop_kept (Only b) a known have =
    let by : (x : Bool) → Have (if x then Only b else Several) known = elim [ true ↦ have | false ↦ tt ] in
    by (same_addr b a)
hop_kept Several a known have = tt

pub kept : (k : Hops) (routes known : List (Addr × Attr)) → Have k known → Have (with_hops k routes) known
kept k [] known have = have
kept k (e ∷ routes) known have = kept (with_hop k e.1.next) routes known (hop_kept k e.1.next known have)

-- where there may be several, more routes tell nothing
pub several_stay : (routes : List (Addr × Attr)) → with_hops Several routes ≡ Several
several_stay [] = refl
several_stay (e ∷ routes) = several_stay routes
