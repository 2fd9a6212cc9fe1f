-- No public contract cites this file. Which texts spell AS numbers, segments and paths.
use Rattle.std.specs.Prelude.{ℕ, List, All}
use Rattle.std.specs.Fmt.{decimal}
use Rattle.path_attr.specs.declared.path.Segment.{Segment}
use Rattle.path_attr.specs.Path.{IsPath, IsSegment, numbers_of}
use Rattle.sim_event.specs.Events.{IsAsNumber, HasAsNumbers}
use Rattle.sim_event.specs.Wording.{segment_text, path_text}
use Rattle.command_text.specs.Joined.{Joins, HasJoined, HasOne}

abbrev pub HasNumber : List ℕ → Type 0
HasNumber text = HasOne IsAsNumber decimal text

-- AS numbers joined by commas
abbrev pub AreNumbers : List ℕ → List ℕ → Type 0
AreNumbers ns text = Joins 44 IsAsNumber decimal ns text

abbrev pub HasNumbers : List ℕ → Type 0
HasNumbers text = HasJoined 44 IsAsNumber decimal text

-- a segment of a path of AS numbers
abbrev pub IsPart : Segment → Type 0
IsPart s = IsSegment s × All IsAsNumber (numbers_of s)

abbrev pub HasSegment : List ℕ → Type 0
HasSegment text = HasOne IsPart segment_text text

-- segments joined by underscores
abbrev pub AreParts : List Segment → List ℕ → Type 0
AreParts ss text = Joins 95 IsPart segment_text ss text

abbrev pub HasSegments : List ℕ → Type 0
HasSegments text = HasJoined 95 IsPart segment_text text

-- a path of AS numbers
abbrev pub IsAsPath : List Segment → Type 0
IsAsPath p = IsPath p × HasAsNumbers p

abbrev pub HasPath : List ℕ → Type 0
HasPath text = HasOne IsAsPath path_text text
