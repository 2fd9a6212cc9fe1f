-- Walks over what a cell has received, by sender.
use Rattle.std.specs.Prelude.{Bool, true, List, find, Option, Some, None}
use Rattle.std.specs.Option.{option_map}
use Rattle.std.specs.Borrow.{Bor}
use Rattle.std.specs.Ordering.{is_lt}
use Rattle.std.specs.List.Sorted.{IsStrictlySortedBy}
use Rattle.std.specs.Map.{keys_of}
use Rattle.net_prefix.specs.declared.addr.Addr.{Addr}
use Rattle.net_prefix.specs.Address.{addr_cmp}
use Rattle.path_attr.specs.declared.attr.Attr.{Attr}

-- each sender once, in order of address
abbrev pub AreInOrder : List (Addr × Attr) → Type 0
AreInOrder routes = IsStrictlySortedBy addr_cmp (keys_of routes)

-- whether the second address comes after the first, if there is a first
abbrev pub is_past : Option Addr → Addr → Bool
is_past None u = true
is_past (Some v) u = is_lt (addr_cmp v u)

-- the first sender past this one, or with none the first of all, and its route
abbrev pub first_past : List (Addr × Attr) → Option Addr → Option (Addr × Attr)
first_past routes past = find (λ e. is_past past e.0) routes

-- a sender, with the route that its reference shows
abbrev pub seen : Option (Addr × Bor Attr) → Option (Addr × Attr)
seen found = option_map (λ e. (e.0, e.1.now)) found
