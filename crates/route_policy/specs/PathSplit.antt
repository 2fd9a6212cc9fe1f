-- No public contract cites this file. The rules of a policy in two: the AS numbers that its rules by path are about,
-- and its other rules.
use Rattle.std.specs.Prelude.{◌≡◌, ℕ, ◌-◌, min, ◌++◌, [], ◌∷◌, Bool, nat_eq, List, length, take, unwrap_or, Option, Some, None, is_some, IfSome, if◌then◌else◌}
use Rattle.std.specs.List.{filter_map, fold, position}
use Rattle.std.specs.Option.{option_to_list}
use Rattle.std.specs.declared.alloc.Global.{Global}
use Rattle.std.specs.declared.sync.Arc.{Arc}
use Rattle.std.specs.Arc.{arc_value}
use Rattle.net_prefix.specs.Prefix.{Prefix}
use Rattle.path_attr.specs.declared.attr.Attr.{Attr}
use Rattle.path_attr.specs.Path.{numbers_of}
use Rattle.route_policy.specs.Judging.{matches}
use Rattle.path_attr.specs.declared.path.Segment.{Segment}
use Rattle.route_policy.specs.declared.rule.Match.{Match}
use Rattle.route_policy.specs.declared.rule.Match.TheVariants.{Any, Is, Under, Path, First, Comm}
use Rattle.route_policy.specs.declared.rule.Rule.{Rule}

-- the AS that has to stand in the path
abbrev pub path_number : Match → Option ℕ
path_number Any = None
path_number (Is q) = None
path_number (Under q) = None
path_number (Path n) = Some n
path_number (First n) = None
path_number (Comm n) = None

-- the rule, where it is not by path
abbrev pub other_rule : Rule → Option Rule
other_rule r = if is_some (path_number r.cond) then None else Some r

abbrev pub path_numbers : List Rule → List ℕ
path_numbers rules = filter_map (λ r. path_number r.cond) rules

abbrev pub other_rules : List Rule → List Rule
other_rules rules = filter_map other_rule rules

pub record Split : Type 0 where
  pub numbers : List ℕ
  pub others : List Rule

abbrev pub split_of : List Rule → Split
split_of rules = record { numbers = path_numbers rules; others = other_rules rules }

-- that of the rules with one more at the end
abbrev pub split_with : Split → Rule → Split
split_with s r = record {
  numbers = s.numbers ++ option_to_list (path_number r.cond);
  others = s.others ++ option_to_list (other_rule r);
}

-- the place of the number, where that comes before this place; else this place
abbrev pub first_with : List ℕ → ℕ → ℕ → ℕ
first_with ns first n = unwrap_or (position (nat_eq n) (take (min first (length ns)) ns)) first

-- the first of this place and the places of these numbers
abbrev pub first_among : List ℕ → ℕ → List ℕ → ℕ
first_among ns first ms = fold (first_with ns) first ms

-- the first place of a number that stands in the path; how many numbers there are, where none does
abbrev pub first_held : List ℕ → List Segment → ℕ
first_held ns path = fold (λ first s. first_among ns first (numbers_of s)) (length ns) path

-- the first rule that matches a route to prefix p with attributes a, where so many rules by path come before the first
-- of them that matches
abbrev pub by_place : Prefix → Attr → ℕ → List Rule → Option Rule
by_place p a left [] = None
by_place p a left (r ∷ rs) =
    if is_some (path_number r.cond) then (if nat_eq left 0 then Some r else by_place p a (left - 1) rs)
    else if matches r.cond p a then Some r
    else by_place p a left rs

-- what is seen of a split that is shared, if there is one
abbrev pub split_shown : Option (Arc Split Global) → Option Split
split_shown None = None
split_shown (Some split) = Some (arc_value split)

-- it is that of these rules, if there is one
abbrev pub IsSplitOf : Option Split → List Rule → Type 0
IsSplitOf split rules = IfSome split (λ s. s ≡ split_of rules)
