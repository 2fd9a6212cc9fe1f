-- Which addresses, prefixes and keys are the same, for the session law.
use Rattle.std.proofs.Common.{◌≡◌, Bool, true, ◌&&◌, ◌==◌, refl, ap, ◌∙◌}
use Rattle.std.specs.declared.cmp.Ordering.TheVariants.{Equal}
use Rattle.std.specs.Ordering.{is_eq}
use Rattle.std.specs.BTreeMap.{is_at}
use Rattle.std.specs.Cmp.{IsTotalOrder, unsigned_ties, both_tied, unsigned_Decides}
use Rattle.std.proofs.lemmas.Cmp.{then_total, on_total, nat_cmp_total}
use Rattle.std.proofs.lemmas.Bool.{and_parts, and_from}
use Rattle.net_prefix.specs.declared.addr.Addr.{Addr}
use Rattle.net_prefix.specs.Address.{same_addr}
use Rattle.net_prefix.specs.Prefix.{Prefix, same_prefix, prefix_cmp}
use Rattle.session_queue.specs.declared.direction.Direction.{Direction}
use Rattle.session_queue.specs.Waiting.{direction_cmp}
use Rattle.reference_machine.specs.declared.rows.RouteKey.{RouteKey}
use Rattle.reference_machine.specs.Network.{route_cmp}

pub same_addr_true : (a b : Addr) → same_addr a b ≡ true → a ≡ b
same_addr_true a b h = ap (λ n. record { 0 = n }) ((unsigned_Decides a.0 b.0).0 h)

pub same_addr_itself : (a : Addr) → same_addr a a ≡ true
same_addr_itself a = (unsigned_Decides a.0 a.0).1 refl

pub same_prefix_true : (p q : Prefix) → same_prefix p q ≡ true → p ≡ q
same_prefix_true p q h =
    let parts = and_parts (p.addr.0 == q.addr.0) (p.len == q.len) h in
    let addr = same_addr_true p.addr q.addr parts.0 in
    let len = (unsigned_Decides p.len q.len).0 parts.1 in
    λ i. record { addr = addr i; len = len i }

pub same_prefix_itself : (p : Prefix) → same_prefix p p ≡ true
same_prefix_itself p = and_from (p.addr.0 == p.addr.0) (p.len == p.len) (same_addr_itself p.addr)
    ((unsigned_Decides p.len p.len).1 refl)

prefix_tied : (p q : Prefix) → same_prefix p q ≡ is_eq (prefix_cmp p q)
prefix_tied p q = both_tied _ _ _ _ (unsigned_ties p.addr.0 q.addr.0) (unsigned_ties p.len q.len)

-- prefixes that compare alike are one
pub prefix_exact : (p q : Prefix) → prefix_cmp p q ≡ Equal → p ≡ q
prefix_exact p q e = same_prefix_true p q (prefix_tied p q ∙ ap is_eq e)

-- both ends are the same
abbrev pub same_ends : Direction → Direction → Bool
same_ends d e = same_addr d.from e.from && same_addr d.to e.to

pub same_ends_true : (d e : Direction) → same_ends d e ≡ true → d ≡ e
same_ends_true d e h =
    let parts = and_parts (same_addr d.from e.from) (same_addr d.to e.to) h in
    let from = same_addr_true d.from e.from parts.0 in
    let to = same_addr_true d.to e.to parts.1 in
    λ i. record { from = from i; to = to i }

pub same_ends_itself : (d : Direction) → same_ends d d ≡ true
same_ends_itself d = and_from (same_addr d.from d.from) (same_addr d.to d.to) (same_addr_itself d.from)
    (same_addr_itself d.to)

pub direction_tied : (d e : Direction) → same_ends d e ≡ is_eq (direction_cmp d e)
direction_tied d e = both_tied _ _ _ _ (unsigned_ties d.from.0 e.from.0) (unsigned_ties d.to.0 e.to.0)

pub route_tied : (k l : RouteKey) → (same_addr k.to l.to && (same_prefix k.prefix l.prefix && same_addr k.from l.from))
    ≡ is_at (route_cmp k) l
route_tied k l = both_tied _ _ _ _ (unsigned_ties k.to.0 l.to.0)
    (both_tied _ _ _ _ (prefix_tied k.prefix l.prefix) (unsigned_ties k.from.0 l.from.0))

pub route_total : IsTotalOrder route_cmp
route_total =
    then_total (on_total (λ k. k.to.0) nat_cmp_total)
    (then_total (then_total (on_total (λ k. k.prefix.addr.0) nat_cmp_total)
    (on_total (λ k. k.prefix.len) nat_cmp_total))
    (on_total (λ k. k.from.0) nat_cmp_total))

-- keys that compare alike are one
pub route_exact : (k l : RouteKey) → route_cmp k l ≡ Equal → k ≡ l
route_exact k l e =
    let parts = and_parts (same_addr k.to l.to) (same_prefix k.prefix l.prefix && same_addr k.from l.from)
    (route_tied k l ∙ ap is_eq e) in
    let others = and_parts (same_prefix k.prefix l.prefix) (same_addr k.from l.from) parts.1 in
    let to = same_addr_true k.to l.to parts.0 in
    let prefix = same_prefix_true k.prefix l.prefix others.0 in
    let from = same_addr_true k.from l.from others.1 in
    λ i. record { to = to i; prefix = prefix i; from = from i }
