-- A pool of attributes: each stands in it once, and its position is its number.
use Rattle.std.specs.Prelude.{◌≡◌, ℕ, Bool, List, [], ◌∷◌, ◌++◌, Some, slice_get, if◌then◌else◌}
use Rattle.std.specs.List.{list_any}
use Rattle.path_attr.specs.declared.attr.Attr.{Attr}
use Rattle.path_attr.specs.Attribute.{same_attr}

-- the attributes are in the pool
abbrev pub has_attr : List Attr → Attr → Bool
has_attr pool attr = list_any (same_attr attr) pool

-- the pool once these attributes are in it: where they are new, they stand at its end
abbrev pub with_attr : List Attr → Attr → List Attr
with_attr pool attr = if has_attr pool attr then pool else pool ++ attr ∷ []

-- each number keeps its attributes
abbrev pub KeepsNumbers : List Attr → List Attr → Type 0
KeepsNumbers old new = (n : ℕ) (attr : Attr) → slice_get old n ≡ Some attr → slice_get new n ≡ Some attr

-- equal attributes have one number
abbrev pub HaveOneNumber : List Attr → Type 0
HaveOneNumber pool = (m n : ℕ) (attr : Attr) → slice_get pool m ≡ Some attr → slice_get pool n ≡ Some attr → m ≡ n
