-- A prefix is listed where it is found in order.
use Rattle.std.proofs.Common.{◌≡◌, ◌||◌, List, [], ◌∷◌, refl, sym}
use Rattle.std.specs.Cmp.{both_tied, unsigned_ties}
use Rattle.std.specs.List.{list_any}
use Rattle.std.specs.BTreeMap.{is_at}
use Rattle.net_prefix.specs.Prefix.{Prefix, prefix_cmp, same_prefix}

same_tied : (p q : Prefix) → is_at (prefix_cmp p) q ≡ same_prefix p q
same_tied p q = sym (both_tied _ _ _ _ (unsigned_ties p.addr.0 q.addr.0) (unsigned_ties p.len q.len))

pub found_listed : (p : Prefix) (ps : List Prefix) → list_any (is_at (prefix_cmp p)) ps ≡ list_any (same_prefix p) ps
found_listed p [] = refl
found_listed p (q ∷ qs) = λ i. same_tied p q i || found_listed p qs i
