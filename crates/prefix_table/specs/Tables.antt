-- Tables from prefixes to values: finite maps in the order of the prefixes, and what is looked up in them.
use Rattle.std.specs.Prelude.{◌≡◌, ℕ, ◌≤◌, Bool, true, List, map, Option, Some, None, IsTrue, is_some, refl}
use Rattle.std.specs.Option.{option_map}
use Rattle.std.specs.List.{find}
use Rattle.std.specs.Borrow.{Bor}
use Rattle.std.specs.Coded.{Coded, code_by, coded×, coded_ℕ}
use Rattle.std.specs.FinMap as fin
use Rattle.std.specs.Ordering.{is_lt}
use Rattle.net_prefix.specs.declared.addr.Addr.{Addr}
use Rattle.net_prefix.specs.Prefix.{Prefix, MakePrefix, Contains, prefix_cmp}
use Rattle.net_prefix.specs.LongestMatch.{IsLongest, HasNone}

-- values by prefix, in the order of address, then length
abbrev pub Table : Type 0 → Type 0
Table V = fin.FinMap prefix_cmp V

-- an entry, with the value that its reference shows
abbrev pub seen : {V : Type 0} → Option (Prefix × Bor V) → Option (Prefix × V)
seen found = option_map (λ e. (e.0, e.1.now)) found

-- entries, each with the value that its reference shows
abbrev pub all_seen : {V : Type 0} → List (Prefix × Bor V) → List (Prefix × V)
all_seen entries = map (λ e. (e.0, e.1.now)) entries

-- a prefix of at most this length that contains the address
abbrev pub Matches : Addr → ℕ → Prefix → Type 0
Matches a most p = MakePrefix p.addr p.len × (p.len ≤ most) × Contains p a

-- the prefix has a value
abbrev pub IsKey : {V : Type 0} → Table V → Prefix → Type 0
IsKey t p = IsTrue (is_some (fin.get t p))

-- a key that matches
abbrev pub IsMatch : {V : Type 0} → Table V → Addr → ℕ → Prefix → Type 0
IsMatch t a most p = Matches a most p × IsKey t p

-- the prefix is the longest key that matches, and has this value
pub record IsLongestMatch {V : Type 0} (t : Table V) (a : Addr) (most : ℕ) (p : Prefix) (v : V) : Type 0 where
  pub match : IsLongest (IsMatch t a most) p
  pub value : fin.get t p ≡ Some v

-- no key matches
abbrev pub HasNoMatch : {V : Type 0} → Table V → Addr → ℕ → Type 0
HasNoMatch t a most = HasNone (IsMatch t a most)

-- the table, with this value of the prefix, if it is one, changed
abbrev pub adjusted_by : {V : Type 0} → (V → V) → Prefix → Table V → Option V → Table V
adjusted_by f p t None = t
adjusted_by f p t (Some v) = fin.insert t p (f v)

-- the table, with the prefix's value, where it has one, changed
abbrev pub adjusted : {V : Type 0} → (V → V) → Prefix → Table V → Table V
adjusted f p t = adjusted_by f p t (fin.get t p)

-- whether the second prefix comes after the first, if there is a first
abbrev pub is_after : Option Prefix → Prefix → Bool
is_after None q = true
is_after (Some p) q = is_lt (prefix_cmp p q)

-- the first entry whose prefix comes after this one, or with none the first of all
abbrev pub first_after : {V : Type 0} → Table V → Option Prefix → Option (Prefix × V)
first_after t after = find (λ e. is_after after e.0) (fin.entries t)

-- the pair of a prefix's numbers, from which the prover knows it again (the table's Model asks for it)
abbrev pub coded_prefix : Coded Prefix
coded_prefix = code_by (ℕ × ℕ) (coded× coded_ℕ coded_ℕ) (λ p. (p.addr.0, p.len))
    (λ n. record { addr = record { 0 = n.0 }; len = n.1 }) (λ _. refl)
