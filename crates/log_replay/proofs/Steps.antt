-- How a log comes on, line by line.
use Rattle.std.proofs.Common.{◌≡◌, ◌≢◌, ℕ, ◌+◌, ◌<◌, ◌≤◌, true, false, eqb, inl, inr, List, [], ◌∷◌, ◌++◌, length, take, drop, position, Option, Some, None, IfSome, Result, Ok, Err, refl, sym, ap, ◌∙◌, subst, arith, append_assoc, append-nil}
use Rattle.std.specs.List.{AllByRecursion}
use Rattle.std.specs.Io.KnownBytes.{Consumes, IsAtEnd, Keeps}
use Rattle.std.proofs.lemmas.Bool.{eqb-false, true≢false}
use Rattle.std.proofs.lemmas.List.{flat_map_more, length_push, length-append, length-take-le}
use Rattle.std.proofs.lemmas.List.Elements.{All-weaker}
use Rattle.watched.specs.LineFeeds.{is_line_feed, Whole, cut_at, no_cut}
use Rattle.decimal.specs.Separators.{Lacks}
use Rattle.reply_text.specs.Replies.{line_end}
use Rattle.watched.specs.Streams.{Reading}
use Rattle.reference_machine.specs.Network.{Network}
use Rattle.reference_machine.specs.Machine.{nothing}
use Rattle.log_replay.specs.declared.place.Stage.{Stage}
use Rattle.log_replay.specs.declared.place.Stage.TheVariants.{Beginning, Within, Finished}
use Rattle.log_replay.specs.declared.place.Checker.{Checker}
use Rattle.log_replay.specs.declared.place.Checked.{Checked}
use Rattle.log_replay.specs.declared.place.Checked.TheVariants.{Taken, Differs as Different, Bad}
use Rattle.log_replay.specs.declared.place.Next.TheVariants.{Line, Part, TooLong, TooMany}
use Rattle.log_replay.specs.declared.verdict.Replayed.{Replayed}
use Rattle.log_replay.specs.declared.verdict.ReplayFault.{ReplayFault}
use Rattle.log_replay.specs.declared.verdict.Replayed.TheVariants.{Agrees, Differs, BadLine}
use Rattle.log_replay.specs.declared.verdict.ReplayFault.TheVariants.{Read, TooManyLines, Memory}
use Rattle.log_replay.specs.Replaying.{Place, beginning, finished, is_finished, Takes, TakesAll, IsFit, Stands, lines_text, Begins, IsInBounds, IsCallAt, IsReplay, most_bytes, most_lines}
use Rattle.log_replay.specs.Reading.{IsAtStage, IsAt, Becomes}
use Rattle.log_replay.specs.Progress.{Comes, IsNext, IsTakenLine, IsAdvance}

takes_push : (p : Place) (ls : List (List ℕ)) (line : List ℕ) (m q : Place) → TakesAll p ls m → Takes m line q →
    TakesAll p (ls ++ line ∷ []) q
takes_push p [] line m q h t = (q, subst (λ x. Takes x line q) h t, refl)
takes_push p (l ∷ more) line m q h t = (h.0, h.1, takes_push h.0 more line m q h.2 t)

fit_push : (ls : List (List ℕ)) (line : List ℕ) → AllByRecursion IsFit ls → IsFit line →
    AllByRecursion IsFit (ls ++ line ∷ [])
fit_push [] line h fit = (fit, tt)
fit_push (l ∷ more) line h fit = (h.0, fit_push more line h.1 fit)

-- one more line was taken
stands_more : (bytes line rest : List ℕ) (k : ℕ) (p q : Place) → Stands bytes (line ++ (10 ∷ rest)) k p → IsFit line →
    k < most_lines → Takes p line q → Stands bytes rest (k + 1) q
stands_more bytes line rest k p q so fit few takes = record {
  done = so.done ++ line ∷ [];
  parts = so.parts ∙ ap (λ t. lines_text so.done ++ t) (sym (append_assoc line line_end rest))
      ∙ sym (append_assoc (lines_text so.done) (line ++ line_end) rest)
      ∙ ap (λ t. t ++ rest) (flat_map_more (λ l. l ++ line_end) [] so.done line);
  fit = fit_push so.done line so.fit fit;
  count = length_push so.done line ∙ ap (λ n. n + 1) so.count;
  few = omega arith;
  taken = takes_push _ so.done line p q so.taken takes;
}

-- the first line in the buffer, and what follows it
pub lacks_whole : (bytes : List ℕ) → Whole bytes → Lacks 10 bytes
lacks_whole bytes h = All-weaker (λ b. eqb b 10 ≡ false) (λ b. b ≢ 10)
    (λ b no_feed same. eqb-false b 10 no_feed same) bytes h

first_line : (pending rest : List ℕ) (end : ℕ) → position is_line_feed pending ≡ Some end → end ≤ most_bytes
    → (pending ++ rest ≡ take end pending ++ (10 ∷ (drop (end + 1) pending ++ rest))) × IsFit (take end pending)
first_line pending rest end is short =
    let cut = cut_at pending end is in (
      ap (λ t. t ++ rest) cut.2 ∙ append_assoc (take end pending) (10 ∷ drop (end + 1) pending) rest,
      (lacks_whole (take end pending) cut.1, omega (arith, length-take-le end pending (omega (arith, cut.0)))),
    )

-- at the end of a log the checker has counted its calls
ended : (stage : Stage) (n : ℕ) (due : List ℕ) (s : Network) (p : Place) → IsAtStage stage n due s p →
    is_finished p ≡ true → p ≡ finished n
ended Beginning n due s p h e = absurd (true≢false (sym e ∙ ap is_finished h.0))
ended (Within v) n due s p h e = absurd (true≢false (sym e ∙ ap is_finished h.3))
ended Finished n due s p h e = h

-- THE NEXT LINE

in_bounds : (left : List ℕ) (k : ℕ) → k < most_lines → IsInBounds k left
in_bounds left k few some = few

begins : (pending rest line : List ℕ) (k end : ℕ) → IsNext pending k (Line end) → line ≡ take end pending →
    Begins (pending ++ rest) line
begins pending rest line k end next is =
    let first = first_line pending rest end next.0 next.1 in
    let after = drop (end + 1) pending ++ rest in
    (after, first.0 ∙ ap (λ t. t ++ (10 ∷ after)) (sym is), subst IsFit (sym is) first.1)

-- it was taken
pub line_taken : (bytes pending pending' rest line : List ℕ) (k end : ℕ) (c c' : Checker) (s s' : Network)
    (checked : Checked) → IsNext pending k (Line end) → line ≡ take end pending → checked ≡ Taken →
    pending' ≡ drop (end + 1) pending
    → ((p : Place) → IsAt c s p → Becomes p line checked c' s') → Comes bytes (pending ++ rest) k c s →
    Comes bytes (pending' ++ rest) (k + 1) c' s'
line_taken bytes pending pending' rest line k end c c' s s' checked next is what after becomes h =
    let first = first_line pending rest end next.0 next.1 in
    let q = subst (λ x. Becomes h.0 line x c' s') what (becomes h.0 h.2) in
    let front = take end pending in
    let so = subst (λ t. Stands bytes t k h.0) first.0 h.1 in
    let now = stands_more bytes front (drop (end + 1) pending ++ rest) k h.0 q.0 so first.1 next.2
    (subst (λ t. Takes h.0 t q.0) is q.1) in
    (q.0, subst (λ t. Stands bytes (t ++ rest) (k + 1) q.0) (sym after) now, q.2)

-- it differs
pub line_differs : (bytes pending rest line : List ℕ) (k end : ℕ) (c c' : Checker) (s s' : Network) (checked : Checked)
    (i : Reading) → IsNext pending k (Line end) → line ≡ take end pending → checked ≡ Different
    → ((p : Place) → IsAt c s p → Becomes p line checked c' s') → Comes bytes (pending ++ rest) k c s →
    IsReplay bytes (Ok (Differs (k + 1))) i
line_differs bytes pending rest line k end c c' s s' checked i next is what becomes h =
    let said = subst (λ x. Becomes h.0 line x c' s') what (becomes h.0 h.2) in (
      k,
      h.0,
      pending ++ rest,
      h.1,
      refl,
      in_bounds (pending ++ rest) k next.2,
      said.0,
      (line, begins pending rest line k end next is, said.1),
    )

-- it is bad
pub line_bad : (bytes pending rest line : List ℕ) (k end : ℕ) (c c' : Checker) (s s' : Network) (checked : Checked)
    (i : Reading) → IsNext pending k (Line end) → line ≡ take end pending → checked ≡ Bad
    → ((p : Place) → IsAt c s p → Becomes p line checked c' s') → Comes bytes (pending ++ rest) k c s →
    IsReplay bytes (Ok (BadLine (k + 1))) i
line_bad bytes pending rest line k end c c' s s' checked i next is what becomes h =
    let said = subst (λ x. Becomes h.0 line x c' s') what (becomes h.0 h.2) in (
      k,
      h.0,
      pending ++ rest,
      h.1,
      refl,
      in_bounds (pending ++ rest) k next.2,
      inl (said.0, (line, begins pending rest line k end next is, said.1)),
    )

-- memory was wanted for it
pub line_wanting : (bytes pending rest line : List ℕ) (k end : ℕ) (c : Checker) (s : Network) (i : Reading) →
    IsNext pending k (Line end) → line ≡ take end pending
    → ((p : Place) → IsAt c s p → IsCallAt p line) → Comes bytes (pending ++ rest) k c s → IsReplay bytes (Err Memory) i
line_wanting bytes pending rest line k end c s i next is checked h =
    let said = checked h.0 h.2 in (
      k,
      h.0,
      pending ++ rest,
      h.1,
      in_bounds (pending ++ rest) k next.2,
      (line, begins pending rest line k end next is, said),
    )

-- it is too long
pub line_long : (bytes pending rest : List ℕ) (k : ℕ) (c : Checker) (s : Network) (i : Reading) →
    IsNext pending k TooLong → Comes bytes (pending ++ rest) k c s → IsReplay bytes (Ok (BadLine (k + 1))) i
line_long bytes pending rest k c s i next h =
    let long = next.0 in (
      k,
      h.0,
      pending ++ rest,
      h.1,
      refl,
      in_bounds (pending ++ rest) k next.1,
      inr (inl (
        long.0,
        long.1 ++ rest,
        ap (λ t. t ++ rest) long.2 ∙ append_assoc long.0 long.1 rest,
        long.3,
        long.4,
      )),
    )

-- it is one too many
pub line_many : (bytes pending rest : List ℕ) (k : ℕ) (c : Checker) (s : Network) (i : Reading) →
    IsNext pending k TooMany → Comes bytes (pending ++ rest) k c s → IsReplay bytes (Err TooManyLines) i
line_many bytes pending rest k c s i next h =
    let last : k ≡ most_lines = omega (arith, next.1, h.1.few) in (
      h.0,
      pending ++ rest,
      subst (λ n. Stands bytes (pending ++ rest) n h.0) last h.1,
      omega (arith, next.0, length-append pending rest),
    )

-- a line that was taken, where what is left to read is known
pub taken_advance : (bytes pending rest : List ℕ) (r : Result (Option Replayed) ReplayFault) (lines : ℕ) (c : Checker)
    (s : Network) (i : Reading) → i.remaining ≡ Some rest → IsTakenLine bytes (pending ++ rest) r lines c s i →
    IsAdvance bytes r pending lines c s i
taken_advance bytes pending rest (Ok None) lines c s i known h = (rest, known, h)
taken_advance bytes pending rest (Ok (Some verdict)) lines c s i known h = h
taken_advance bytes pending rest (Err fault) lines c s i known h = h

-- the replay has ended, or goes on
pub ended_advance : (bytes pending : List ℕ) (found : Option Replayed) (verdict : Replayed) (lines : ℕ) (c : Checker)
    (s : Network) (i : Reading) → found ≡ Some verdict → IsAdvance bytes (Ok found) pending lines c s i →
    IsReplay bytes (Ok verdict) i
ended_advance bytes pending None verdict lines c s i is h = let none : ◌≡◌ {A = Option Replayed} None (Some verdict) =
    is in absurd (cc)
ended_advance bytes pending (Some other) verdict lines c s i is h = let same : other ≡ verdict = cc in
    subst (λ v. IsReplay bytes (Ok v) i) same h

pub more_advance : (bytes pending : List ℕ) (found : Option Replayed) (lines : ℕ) (c : Checker) (s : Network)
    (i : Reading) → found ≡ None → IsAdvance bytes (Ok found) pending lines c s i → (rest : List ℕ)
    × (i.remaining ≡ Some rest) × Comes bytes (pending ++ rest) lines c s
more_advance bytes pending None lines c s i is h = h
more_advance bytes pending (Some verdict) lines c s i is h = let some : ◌≡◌ {A = Option Replayed} (Some verdict) None =
    is in absurd (cc)

-- READING ON

-- bytes that were read stand in the buffer
record IsFurther (pending pending' rest : List ℕ) (new : Option (List ℕ)) : Type 0 where
  pub left : List ℕ
  pub known : new ≡ Some left
  pub same : pending ++ rest ≡ pending' ++ left

further : (old new : Option (List ℕ)) (pending pending' rest more : List ℕ) → old ≡ Some rest → Consumes old new more →
    pending' ≡ pending ++ more → IsFurther pending pending' rest new
further None new pending pending' rest more known gave is = let none : None ≡ Some rest = known in absurd (cc)
further (Some xs) None pending pending' rest more known gave is = absurd gave
further (Some xs) (Some ys) pending pending' rest more known gave is =
    let same : rest ≡ xs = cc in record {
      left = ys;
      known = refl;
      same = ap (λ t. pending ++ t) (same ∙ gave) ∙ sym (append_assoc pending more ys) ∙ ap (λ t. t ++ ys) (sym is);
    }

pub read_further : (bytes pending pending' rest : List ℕ) (old new : Reading) (k : ℕ) (c : Checker) (s : Network) →
    old.remaining ≡ Some rest
    → (more : List ℕ) × (pending' ≡ pending ++ more) × Consumes old.remaining new.remaining more →
    Comes bytes (pending ++ rest) k c s → (left : List ℕ) × (new.remaining ≡ Some left)
    × Comes bytes (pending' ++ left) k c s
read_further bytes pending pending' rest old new k c s known gave h =
    let f = further old.remaining new.remaining pending pending' rest gave.0 known gave.2 gave.1 in
    (f.left, f.known, subst (λ t. Comes bytes t k c s) f.same h)

at_end : (new : Option (List ℕ)) (left : List ℕ) → new ≡ Some left → IsAtEnd new → left ≡ []
at_end None left known end = let none : None ≡ Some left = known in absurd (cc)
at_end (Some xs) left known end = let same : xs ≡ left = cc in sym same ∙ end

-- the input has ended
pub read_end : (bytes pending pending' rest : List ℕ) (old new : Reading) (k : ℕ) (c : Checker) (s : Network) →
    old.remaining ≡ Some rest
    → (more : List ℕ) × (pending' ≡ pending ++ more) × Consumes old.remaining new.remaining more →
    IsAtEnd new.remaining → Comes bytes (pending ++ rest) k c s → (new.remaining ≡ Some [])
    × Comes bytes pending' k c s
read_end bytes pending pending' rest old new k c s known gave end h =
    let f = further old.remaining new.remaining pending pending' rest gave.0 known gave.2 gave.1 in
    let none = at_end new.remaining f.left f.known end in (
      f.known ∙ ap Some none,
      subst (λ t. Comes bytes t k c s) (f.same ∙ ap (λ t. pending' ++ t) none
          ∙ append-nil pending') h,
    )

kept_known : (old new : Option (List ℕ)) (rest : List ℕ) → old ≡ Some rest → Keeps old new → new ≡ Some rest
kept_known None new rest known kept = let none : None ≡ Some rest = known in absurd (cc)
kept_known (Some xs) None rest known kept = absurd kept
kept_known (Some xs) (Some ys) rest known kept = ap Some kept ∙ known

-- the reader failed
pub read_failed : (bytes pending rest : List ℕ) (old new : Reading) (k : ℕ) (c : Checker) (s : Network) →
    old.remaining ≡ Some rest → position is_line_feed pending ≡ None → new.failed ≡ true →
    Keeps old.remaining new.remaining
    → Comes bytes (pending ++ rest) k c s → IsReplay bytes (Err (Read (k + 1))) new
read_failed bytes pending rest old new k c s known none failed kept h = (
  k,
  h.0,
  pending ++ rest,
  h.1,
  refl,
  (
    failed,
    pending,
    rest,
    refl,
    lacks_whole pending (no_cut pending none),
    kept_known old.remaining new.remaining rest known kept,
  ),
)

-- THE END OF THE INPUT

pub end_agrees : (bytes pending : List ℕ) (k : ℕ) (c : Checker) (s : Network) (i : Reading) → i.remaining ≡ Some [] →
    pending ≡ [] → ((p : Place) → IsAt c s p → is_finished p ≡ true) → Comes bytes pending k c s →
    IsReplay bytes (Ok (Agrees c.entries)) i
end_agrees bytes pending k c s i read none finishes h =
    let place = ended c.stage c.entries (drop c.at c.due.items) s h.0 h.2 (finishes h.0 h.2) in
    (k, subst (λ t. Stands bytes t k (finished c.entries)) none (subst (λ p. Stands bytes pending k p) place h.1), read)

-- in the middle of the log or behind it
pub end_bad : (bytes pending : List ℕ) (k : ℕ) (c : Checker) (s : Network) (i : Reading) → IsNext pending k Part →
    ((p : Place) → IsAt c s p → is_finished p ≡ true → 0 < length pending) → Comes bytes pending k c s →
    IsReplay bytes (Ok (BadLine (k + 1))) i
end_bad bytes pending k c s i next more h =
    (k, h.0, pending, h.1, refl, next.2, inr (inr (lacks_whole pending (no_cut pending next.0), more h.0 h.2)))

-- before the first line
pub comes_first : (bytes pending : List ℕ) (k : ℕ) (c : Checker) (s : Network) → pending ≡ [] → k ≡ 0 → s ≡ nothing →
    IsAt c nothing beginning → Comes bytes (pending ++ bytes) k c s
comes_first bytes pending k c s none zero new at = (
  beginning,
  record {
    done = [];
    parts = sym (ap (λ t. t ++ bytes) none);
    fit = tt;
    count = sym zero;
    few = omega (arith, zero);
    taken = refl;
  },
  subst (λ t. IsAt c t beginning) (sym new) at,
)

pub if_known : (o : Option (List ℕ)) (P : List ℕ → Type 0) → ((x : List ℕ) → o ≡ Some x → P x) → IfSome o P
if_known None P h = tt
if_known (Some x) P h = h x refl
