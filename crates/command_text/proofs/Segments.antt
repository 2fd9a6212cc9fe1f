-- Texts of segments, and of segments that are joined by underscores.
use Rattle.std.proofs.Common.{◌≡◌, ◌≢◌, ℕ, ◌≤◌, List, [], ◌∷◌, ◌++◌, map, length, Option, Some, None, Result, Ok, Err, IfSome, IfNone, IfOk, refl, sym, ap, subst, ◌∙◌, arith, length-append}
use Rattle.std.specs.List.{AllByRecursion, join_with_byte}
use Rattle.std.specs.Option.{SomeIff}
use Rattle.std.proofs.lemmas.List.{append_cancel_right}
use Rattle.std.proofs.lemmas.List.Elements.{All-nil, All-cons, All-append, All-head, All-from_recursion, recursion_from_All}
use Rattle.std.proofs.lemmas.List.Sums.{sum_by-cons}
use Rattle.decimal.specs.Separators.{Lacks}
use Rattle.path_attr.specs.declared.path.Segment.{Segment}
use Rattle.path_attr.specs.declared.path.Segment.TheVariants.{Seq as Sequence, Set}
use Rattle.path_attr.specs.Path.{IsAscending, IsPath, AreSegments, numbers_of, number_count}
use Rattle.sim_event.specs.Events.{IsAsNumber, HasAsNumbers}
use Rattle.sim_event.specs.Wording.{none_text, numbers_text, segment_text, path_text}
use Rattle.command_text.specs.Lines.{most_command_bytes}
use Rattle.command_text.specs.Ascending.{HasAscending}
use Rattle.command_text.specs.Reading.{Reads}
use Rattle.command_text.specs.Paths.{AreNumbers, HasNumbers, IsPart, HasSegment, AreParts, HasSegments, IsAsPath, HasPath}
use Rattle.command_text.proofs.Joins.{has_first, has_after, has_more, has_last, has_one, GoesOn, goes_more, goes_last}
use Rattle.command_text.proofs.Numbers.{numbers_lack, numbers_within}

abbrev braced : List ℕ → List ℕ
braced text = 123 ∷ text ++ (125 ∷ [])

pub segment_lacks : (s : Segment) → IsPart s → Lacks 95 (segment_text s)
segment_lacks (Sequence ns) h = numbers_lack 95 (λ digit. omega arith) (λ e. omega (arith, e)) ns
segment_lacks (Set ns) h =
    let Other : ℕ → Type 0 = λ b. b ≢ 95 in
    All-cons Other 123 _ (λ e. omega (arith, e)) (All-append Other (numbers_text ns) (125 ∷ [])
    (numbers_lack 95 (λ digit. omega arith) (λ e. omega (arith, e)) ns)
    (All-cons Other 125 [] (λ e. omega (arith, e)) (All-nil Other)))

-- a text in braces
pub set_ascending : (text inner : List ℕ) → text ≡ braced inner → HasSegment text → HasAscending 1 inner
set_ascending text inner e (Sequence ns, h, s) =
    absurd (All-head (λ b. b ≢ 123) 123 (inner ++ (125 ∷ []))
    (subst (Lacks 123) (sym s ∙ e) (numbers_lack 123 (λ digit. omega arith) (λ e. omega (arith, e)) ns)) refl)
set_ascending text inner e (Set ns, h, s) =
    let same : braced inner ≡ braced (numbers_text ns) = sym e ∙ s in
    let tails : inner ++ (125 ∷ []) ≡ numbers_text ns ++ (125 ∷ []) = cc in (
      ns,
      (h.0.0, recursion_from_All IsAsNumber ns h.1, append_cancel_right inner (numbers_text ns) (125 ∷ []) tails),
      h.0.1,
    )

pub set_of : (text inner ns : List ℕ) → text ≡ braced inner → AreNumbers ns inner → IsAscending ns → IsPart (Set ns)
    × (text ≡ segment_text (Set ns))
set_of text inner ns e are up = (((are.0, up), All-from_recursion IsAsNumber ns are.1), e ∙ ap braced are.2)

pub ascending_set : (text inner : List ℕ) → text ≡ braced inner → HasAscending 1 inner → HasSegment text
ascending_set text inner e has = let made = set_of text inner has.0 e has.1 has.2 in (Set has.0, made.0, made.1)

-- a text in no braces
pub sequence_numbers : (text : List ℕ) → ((inner : List ℕ) → text ≡ braced inner → ⊥) →
    HasSegment text → HasNumbers text
sequence_numbers text other (Sequence ns, h, s) = (ns, (h.0, recursion_from_All IsAsNumber ns h.1, s))
sequence_numbers text other (Set ns, h, s) = absurd (other (numbers_text ns) s)

pub sequence_of : (text ns : List ℕ) → AreNumbers ns text → IsPart (Sequence ns) × (text ≡ segment_text (Sequence ns))
sequence_of text ns are = ((are.0, All-from_recursion IsAsNumber ns are.1), are.2)

pub numbers_sequence : (text : List ℕ) → HasNumbers text → HasSegment text
numbers_sequence text has = let made = sequence_of text has.0 has.1 in (Sequence has.0, made.0, made.1)

-- what was read of a text in braces, and of another
pub set_read : {E : Type 0} (text inner : List ℕ) (r : Result (Option Segment) E) → text ≡ braced inner →
    IfOk r (λ made. IfSome made (λ part. IsPart part × (braced inner ≡ segment_text part))) →
    IfOk r (λ made. IfNone made (HasAscending 1 inner → ⊥)) →
    IfOk r (λ made. Reads IsPart segment_text text made)
set_read text inner (Ok (Some s)) e found none = (found.0, e ∙ found.1)
set_read text inner (Ok None) e found none = λ s h is. none (set_ascending text inner e (s, h, is))
set_read text inner (Err x) e found none = tt

pub sequence_read : {E : Type 0} (text : List ℕ) (r : Result (Option Segment) E) →
    ((inner : List ℕ) → text ≡ braced inner → ⊥) →
    IfOk r (λ made. IfSome made (λ part. IsPart part × (text ≡ segment_text part))) →
    IfOk r (λ made. IfNone made (HasNumbers text → ⊥)) →
    IfOk r (λ made. Reads IsPart segment_text text made)
sequence_read text (Ok (Some s)) other found none = found
sequence_read text (Ok None) other found none = λ s h is. none (sequence_numbers text other (s, h, is))
sequence_read text (Err x) other found none = tt

-- segments joined by underscores
pub segments_first : (text first after : List ℕ) → text ≡ first ++ (95 ∷ after) → Lacks 95 first →
    HasSegments text → HasSegment first
segments_first = has_first 95 IsPart segment_text segment_lacks

pub segments_after : (text first after : List ℕ) → text ≡ first ++ (95 ∷ after) → Lacks 95 first →
    HasSegments text → HasSegments after
segments_after = has_after 95 IsPart segment_text segment_lacks

pub segments_more : (text first after : List ℕ) → text ≡ first ++ (95 ∷ after) → HasSegment first →
    HasSegments after → HasSegments text
segments_more = has_more 95 IsPart segment_text segment_lacks

pub segments_last : (text : List ℕ) → Lacks 95 text → HasSegments text → HasSegment text
segments_last = has_last 95 IsPart segment_text segment_lacks

pub segments_one : (text : List ℕ) → HasSegment text → HasSegments text
segments_one = has_one 95 IsPart segment_text segment_lacks

-- the segments so far, and those of the rest
abbrev pub SegmentsGoOn : List Segment → List ℕ → List ℕ → Type 0
SegmentsGoOn ss rest text = GoesOn 95 IsPart segment_text ss rest text

pub segments_go_more : (ss : List Segment) (s : Segment) (rest first after text : List ℕ) →
    rest ≡ first ++ (95 ∷ after) → IsPart s → first ≡ segment_text s → SegmentsGoOn ss rest text →
    SegmentsGoOn (ss ++ (s ∷ [])) after text
segments_go_more = goes_more 95 IsPart segment_text segment_lacks

pub segments_go_last : (ss : List Segment) (s : Segment) (rest text : List ℕ) → IsPart s → rest ≡ segment_text s →
    SegmentsGoOn ss rest text → AreParts (ss ++ (s ∷ [])) text
segments_go_last = goes_last 95 IsPart segment_text segment_lacks

-- a path has no more numbers than its text has bytes
segment_within : (s : Segment) → length (numbers_of s) ≤ length (segment_text s)
segment_within (Sequence ns) = numbers_within ns
segment_within (Set ns) = omega (arith, numbers_within ns, length-append (numbers_text ns) (125 ∷ []))

count_within : (ss : List Segment) → number_count ss ≤ length (join_with_byte 95 (map segment_text ss))
count_within [] = omega arith
count_within (s ∷ []) = omega (arith, segment_within s, sum_by-cons (λ s. length (numbers_of s)) s [])
count_within (s ∷ t ∷ ts) =
    omega (
      arith,
      segment_within s,
      count_within (t ∷ ts),
      sum_by-cons (λ s. length (numbers_of s)) s (t ∷ ts),
      length-append (segment_text s) (95 ∷ join_with_byte 95 (map segment_text (t ∷ ts))),
    )

parts_segments : (ss : List Segment) → AllByRecursion IsPart ss → AreSegments ss × HasAsNumbers ss
parts_segments [] h = (tt, tt)
parts_segments (s ∷ ss) h = let more = parts_segments ss h.1 in ((h.0.0, more.0), (h.0.1, more.1))

pub segments_parts : (ss : List Segment) → AreSegments ss → HasAsNumbers ss → AllByRecursion IsPart ss
segments_parts [] h g = tt
segments_parts (s ∷ ss) h g = ((h.0, g.0), segments_parts ss h.1 g.1)

-- a path of one segment or more
pub path_of : (ss : List Segment) (text : List ℕ) → length text ≤ most_command_bytes → AreParts ss text → IsAsPath ss
    × (text ≡ path_text ss)
unfolding path_text
path_of [] text short are = absurd (omega (arith, are.0))
path_of (s ∷ ss) text short are =
    let parts = parts_segments (s ∷ ss) are.1 in
    ((((parts.0, omega (arith, count_within (s ∷ ss), ap length are.2)), parts.1)), are.2)

pub segments_path : (text : List ℕ) → length text ≤ most_command_bytes → HasSegments text → HasPath text
segments_path text short has = let made = path_of has.0 text short has.1 in (has.0, made.0, made.1)

-- the path of no segment
pub none_path : (text : List ℕ) → text ≡ none_text → IsAsPath [] × (text ≡ path_text [])
unfolding path_text
none_path text e = (((tt, omega arith), tt), e)

pub dash_path : (text : List ℕ) → text ≡ none_text → HasPath text
dash_path text e = let made = none_path text e in ([], made.0, made.1)

pub path_segments : (text : List ℕ) → (text ≡ none_text → ⊥) → HasPath text → HasSegments text
unfolding path_text
path_segments text other ([], h, e) = absurd (other e)
path_segments text other (s ∷ ss, h, e) = (s ∷ ss, (omega arith, segments_parts (s ∷ ss) h.0.0 h.1, e))

-- the path of segments that were read, and none where none were
pub path_read : (ss : List Segment) (text : List ℕ) (p : Option (List Segment)) → length text ≤ most_command_bytes →
    AreParts ss text → SomeIff p (IsPath ss) ss → Reads IsAsPath path_text text p
path_read ss text (Some p) short are is = subst (λ p. IsAsPath p × (text ≡ path_text p)) (sym is.1)
    (path_of ss text short are)
path_read ss text None short are is = absurd (is (path_of ss text short are).0.0)

pub no_path : (text : List ℕ) → (text ≡ none_text → ⊥) → (HasSegments text → ⊥) → (p : List Segment) → IsAsPath p →
    text ≡ path_text p → ⊥
no_path text other none p h e = none (path_segments text other (p, h, e))
