-- The communities of a route (RFC 1997): a set of numbers of 32 bits, which is named in strictly ascending order (own).
use Rattle.std.specs.Prelude.{ℕ, Bool, nat_eq, nat_lt, List, ◌∷◌, ◌++◌, filter, Option, Some, None}
use Rattle.std.specs.List.{list_any}

-- NO_EXPORT, NO_ADVERTISE and NO_EXPORT_SUBCONFED: FFFFFF01, FFFFFF02 and FFFFFF03 (RFC 1997)
abbrev pub no_export : ℕ
no_export = 4294967041

abbrev pub no_advertise : ℕ
no_advertise = 4294967042

abbrev pub no_export_subconfed : ℕ
no_export_subconfed = 4294967043

-- whether the route carries the community
abbrev pub carries : ℕ → List ℕ → Bool
carries n cs = list_any (nat_eq n) cs

-- the communities with one more, which stands behind those below it and before those above it; one that is there stands
-- there once
abbrev pub with_community : ℕ → List ℕ → List ℕ
with_community n cs = filter (λ m. nat_lt m n) cs ++ n ∷ filter (λ m. nat_lt n m) cs

-- the communities with the one that is given, if one is
abbrev pub with_given : Option ℕ → List ℕ → List ℕ
with_given None cs = cs
with_given (Some n) cs = with_community n cs
