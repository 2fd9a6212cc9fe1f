-- How values are written in commands and replies (own).
use Rattle.std.specs.Prelude.{ℕ, List, [], ◌∷◌, ◌++◌, map, codes, Option, Some, None}
use Rattle.std.specs.Fmt.{decimal}
use Rattle.std.specs.List.{join_with_byte}
use Rattle.net_prefix.specs.declared.addr.Addr.{Addr}
use Rattle.net_prefix.specs.Address.{addr_text}
use Rattle.path_attr.specs.declared.path.Segment.{Segment}
use Rattle.path_attr.specs.declared.path.Segment.TheVariants.{Seq as Sequence, Set}
use Rattle.path_attr.specs.declared.origin.Origin.{Origin}
use Rattle.path_attr.specs.declared.origin.Origin.TheVariants.{Igp, Egp, Incomplete}

-- a dash where there is nothing
abbrev pub none_text : List ℕ
none_text = codes "-"

abbrev pub maybe_number_text : Option ℕ → List ℕ
maybe_number_text None = none_text
maybe_number_text (Some n) = decimal n

abbrev pub maybe_addr_text : Option Addr → List ℕ
maybe_addr_text None = none_text
maybe_addr_text (Some a) = addr_text a

-- the numbers, joined by commas
abbrev pub numbers_text : List ℕ → List ℕ
numbers_text ns = join_with_byte 44 (map decimal ns)

-- a set stands in braces
abbrev pub segment_text : Segment → List ℕ
segment_text (Sequence ns) = numbers_text ns
segment_text (Set ns) = 123 ∷ numbers_text ns ++ (125 ∷ [])

-- the segments, joined by underscores
unfoldable pub path_text : List Segment → List ℕ
path_text [] = none_text
path_text (s ∷ ss) = join_with_byte 95 (map segment_text (s ∷ ss))

abbrev pub origin_text : Origin → List ℕ
origin_text Igp = codes "igp"
origin_text Egp = codes "egp"
origin_text Incomplete = codes "inc"

abbrev pub clusters_text : List Addr → List ℕ
clusters_text [] = none_text
clusters_text (a ∷ more) = join_with_byte 44 (map addr_text (a ∷ more))
