-- No public contract cites this file. Standings in a vector, in groups: the routes of one neighbouring AS stand
-- together, or where MULTI_EXIT_DISC is compared whatever the neighbouring AS all routes, each group in the order of
-- all filters. Behind the groups stands what is excluded, in order of source.
use Rattle.std.specs.Prelude.{◌≡◌, ℕ, ◌+◌, ◌<◌, ◌≤◌, Bool, true, false, not, ◌&&◌, ◌||◌, ◌==◌, nat_lt, if◌then◌else◌, List, [], ◌∷◌, length, slice_index_or, Option, Some, None, ⊤}
use Rattle.std.specs.declared.cmp.Ordering.TheVariants.{Equal}
use Rattle.std.specs.Ordering.{is_lt, eq_by_cmp}
use Rattle.std.specs.List.{insert}
use Rattle.std.specs.FinMap as map
use Rattle.std.specs.FinMap.{find}
use Rattle.std.specs.FinMap.Entries.{where_key}
use Rattle.path_attr.specs.Path.{neighbour}
use Rattle.route_select.specs.declared.candidate.Source.{Source}
use Rattle.route_select.specs.declared.candidate.Source.TheVariants.{Own}
use Rattle.route_select.specs.declared.candidate.Candidate.{Candidate}
use Rattle.route_select.specs.declared.candidate.Reason.TheVariants.{Loop}
use Rattle.route_select.specs.declared.candidate.Standing.{Standing}
use Rattle.route_select.specs.declared.candidate.Standing.TheVariants.{Excluded, Considered}
use Rattle.route_select.specs.Selection.{source_cmp, filters, same_group, candidate_of, considered_in}
use Rattle.route_select.specs.Entries.{EachIsFrom, key_at, standing_at, candidate_at}
use Rattle.route_select.specs.Leaders.{In, ahead, unmed, Leads, Led}

abbrev pub number_rank : Option ℕ → ℕ
number_rank None = 0
number_rank (Some n) = n + 1

-- the groups are in order of their neighbouring AS, and the routes with none come first; or there is one group
abbrev pub group_rank : Bool → Candidate → ℕ
group_rank always c = if always then 0 else number_rank (neighbour c.attr.path)

-- whether a stands before b: in an earlier group, or in the same one and ahead
abbrev pub stands_before : Bool → Candidate → Candidate → Bool
stands_before always a b = nat_lt (group_rank always a) (group_rank always b)
    || (group_rank always a == group_rank always b && ahead always filters a b)

-- the same of the entries of two sources: what is excluded comes last, in order of source
abbrev pub before_by : Bool → Source → Source → Standing → Standing → Bool
before_by always s t (Considered a) (Considered b) = stands_before always a b
before_by always s t (Considered a) (Excluded r) = true
before_by always s t (Excluded q) (Considered b) = false
before_by always s t (Excluded q) (Excluded r) = is_lt (source_cmp s t)

abbrev pub before : Bool → Source × Standing → Source × Standing → Bool
before always e f = before_by always e.0 f.0 e.1 f.1

-- no entry is to stand before an earlier one
abbrev pub AreRanked : Bool → List (Source × Standing) → Type 0
AreRanked always [] = ⊤
AreRanked always (e ∷ es) = ((f : Source × Standing) → In f es → before always f e ≡ false) × AreRanked always es

-- each source once
abbrev pub AreDistinct : List (Source × Standing) → Type 0
AreDistinct [] = ⊤
AreDistinct (e ∷ es) = (find source_cmp e.0 es ≡ None) × AreDistinct es

-- the standing of each source
abbrev pub known_of : List (Source × Standing) → map.FinMap source_cmp Standing
known_of es = map.from_entries es

-- the entries of the other sources
abbrev pub without : Source → List (Source × Standing) → List (Source × Standing)
without source es = where_key source_cmp (λ other. not (eq_by_cmp source_cmp source other)) es

-- the first of the leaders in the order without MED; None where nothing is considered
abbrev pub IsBest : Bool → List Candidate → Option Candidate → Type 0
IsBest always set None = (n : Candidate) → In n set → ⊥
IsBest always set (Some b) = Leads always set b × ((n : Candidate) → In n set → Led always set b n)

-- the most entries, so that 32 bits hold the position of the best
abbrev pub most_entries : ℕ
most_entries = 4294967295

-- the groups and what is excluded, and the position of the best
pub record AreGrouped (always : Bool) (es : List (Source × Standing)) (at : ℕ) : Type 0 where
  pub ranked : AreRanked always es
  pub distinct : AreDistinct es
  pub own : EachIsFrom es
  pub best : IsBest always (considered_in es) (candidate_at es at)
  pub few : length es ≤ most_entries

-- the same routes, in whatever order
pub record SameMembers (xs ys : List Candidate) : Type 0 where
  pub into : (n : Candidate) → In n xs → In n ys
  pub back : (n : Candidate) → In n ys → In n xs

-- the source's entry is at position i
pub record IsPositionOf (es : List (Source × Standing)) (source : Source) (i : ℕ) : Type 0 where
  pub in_range : i < length es
  pub tied : source_cmp source (key_at es i) ≡ Equal
  pub found : find source_cmp source es ≡ Some (standing_at es i)

abbrev pub entry_at : List (Source × Standing) → ℕ → Source × Standing
entry_at es i = slice_index_or es i (Own, Excluded Loop)

-- the entry goes to position i
pub record IsSlot (always : Bool) (es : List (Source × Standing)) (e : Source × Standing) (i : ℕ) : Type 0 where
  pub in_range : i ≤ length es
  pub after : (j : ℕ) → j < i → before always e (entry_at es j) ≡ false
  pub here : i < length es → before always e (entry_at es i) ≡ true

-- whether the route is of a group of lower rank
abbrev pub below_by : Bool → ℕ → Option Candidate → Bool
below_by always rank None = false
below_by always rank (Some c) = nat_lt (group_rank always c) rank

abbrev pub is_below : Bool → ℕ → Source × Standing → Bool
is_below always rank e = below_by always rank (candidate_of e.1)

-- position i is behind the groups of lower rank, and before the others
pub record IsGroupStart (always : Bool) (es : List (Source × Standing)) (rank : ℕ) (i : ℕ) : Type 0 where
  pub in_range : i ≤ length es
  pub below : (j : ℕ) → j < i → (n : Candidate) → candidate_at es j ≡ Some n → group_rank always n < rank
  pub from : (k : ℕ) → i ≤ k → (n : Candidate) → candidate_at es k ≡ Some n → rank ≤ group_rank always n

-- whether c is there and ahead of b in the order without MED
abbrev pub is_better : Bool → Option Candidate → Option Candidate → Bool
is_better always (Some c) (Some b) = ahead always unmed c b
is_better always (Some c) None = false
is_better always None o = false

-- whether b, the best of some routes, stays the best beside c: c is not ahead of it in the order without MED, and does
-- not lead its group
abbrev pub stays_beside : Bool → Candidate → Option Candidate → Bool
stays_beside always b None = true
stays_beside always b (Some c) = not (ahead always unmed c b) && not (same_group always c b && ahead always filters c b)

abbrev pub keeps_best : Bool → Option Candidate → Option Candidate → Bool
keeps_best always new None = false
keeps_best always new (Some b) = stays_beside always b new

-- of the entries but the one at position i, the best stood at position j
pub record IsBestBeside (always : Bool) (es : List (Source × Standing)) (i j : ℕ) : Type 0 where
  pub others : List (Source × Standing)
  pub in_range : i ≤ length others
  pub beside : es ≡ insert others i (entry_at es i)
  pub best : IsBest always (considered_in others) (candidate_at others j)
