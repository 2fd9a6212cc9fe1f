-- Where two lists of routes, each by sender, differ first. No public contract cites this file.
use Rattle.std.specs.Prelude.{Bool, ◌&&◌, List, [], ◌∷◌, Option, Some, None, if◌then◌else◌}
use Rattle.std.specs.Ordering.{is_lt}
use Rattle.net_prefix.specs.declared.addr.Addr.{Addr}
use Rattle.net_prefix.specs.Address.{same_addr, addr_cmp}
use Rattle.path_attr.specs.declared.attr.Attr.{Attr}
use Rattle.path_attr.specs.Attribute.{same_attr}

-- the same route from the same sender
abbrev pub same_route : Addr × Attr → Addr × Attr → Bool
same_route x y = same_addr x.0 y.0 && same_attr x.1 y.1

abbrev pub lower : Addr → Addr → Addr
lower a b = if is_lt (addr_cmp a b) then a else b

-- the first sender whose route differs
abbrev pub first_difference : List (Addr × Attr) → List (Addr × Attr) → Option Addr
first_difference [] [] = None
first_difference (x ∷ xs) [] = Some x.0
first_difference [] (y ∷ ys) = Some y.0
first_difference (x ∷ xs) (y ∷ ys) = if same_route x y then first_difference xs ys else Some (lower x.0 y.0)
