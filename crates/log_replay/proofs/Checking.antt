-- What becomes of a line at each place.
use Rattle.std.proofs.Common.{◌≡◌, ◌≢◌, ℕ, ◌+◌, ◌-◌, true, false, inl, inr, ⊎_elim, List, [], ◌∷◌, ◌++◌, length, take, drop, codes, None, Result, Ok, Err, refl, sym, ap, ◌∙◌, subst, arith, append_assoc}
use Rattle.std.specs.Fmt.{decimal}
use Rattle.std.specs.Result.{IsErr}
use Rattle.std.specs.List.{AllByRecursion}
use Rattle.std.proofs.lemmas.Bool.{true≢false}
use Rattle.std.proofs.lemmas.List.{append_cancel_right, length-append, take-append-drop, drop_at}
use Rattle.std.proofs.lemmas.List.Elements.{All-cons}
use Rattle.decimal.specs.Separators.{Lacks, not_lacks, cut_exact}
use Rattle.sim_event.specs.declared.event.Event.{Event}
use Rattle.reference_machine.specs.Network.{Network}
use Rattle.reference_machine.specs.Machine.{nothing, step}
use Rattle.reply_text.specs.Replies.{line_end}
use Rattle.reply_text.specs.Lines.{marked, reply_lines, IsLine, RepliesAreLines}
use Rattle.log_text.specs.declared.version.Version.{Version}
use Rattle.log_text.specs.Versions.{header}
use Rattle.log_text.specs.Logs.{reply_mark}
use Rattle.log_replay.specs.declared.place.Checked.{Checked}
use Rattle.log_replay.specs.declared.place.Checker.{Checker}
use Rattle.log_replay.specs.declared.place.Stage.TheVariants.{Beginning, Within, Finished}
use Rattle.log_replay.specs.Replaying.{Place, within, finished, Takes, IsCallLine, IsCallAt, awaits_reply}
use Rattle.log_replay.specs.Reading.{Calls, IsAtStage, IsChecked}

-- THE TEXT OF WHAT IS DUE

first_due : (front : List ℕ) (more : List (List ℕ)) → marked reply_mark ((front ++ line_end) ∷ more)
    ≡ (reply_mark ++ front) ++ (10 ∷ marked reply_mark more)
first_due front more =
    ap (λ t. t ++ marked reply_mark more) (sym (append_assoc reply_mark front line_end))
    ∙ append_assoc (reply_mark ++ front) line_end (marked reply_mark more)

pub due_begins : (d : List ℕ) (more : List (List ℕ)) (h : IsLine d) → marked reply_mark (d ∷ more) ≡ (reply_mark ++ h.0)
    ++ (10 ∷ marked reply_mark more)
due_begins d more h = ap (λ t. marked reply_mark (t ∷ more)) h.2 ∙ first_due h.0 more

no_due : (lines : List (List ℕ)) → AllByRecursion IsLine lines → Lacks 10 (marked reply_mark lines) → lines ≡ []
no_due [] h lacks = refl
no_due (d ∷ more) h lacks =
    absurd (not_lacks 10 (reply_mark ++ h.0.0) (marked reply_mark more)
    (subst (Lacks 10) (due_begins d more h.0) lacks))

pub mark_lacks : (front : List ℕ) → Lacks 10 front → Lacks 10 (reply_mark ++ front)
mark_lacks front h = All-cons (λ b. b ≢ 10) 61 (32 ∷ front) (λ e. omega (arith, e))
    (All-cons (λ b. b ≢ 10) 32 front (λ e. omega (arith, e)) h)

record IsDue (lines : List (List ℕ)) (next rest : List ℕ) : Type 0 where
  first : List ℕ
  more : List (List ℕ)
  are : lines ≡ first ∷ more
  fit : AllByRecursion IsLine more
  same : reply_mark ++ first ≡ next ++ line_end
  left : rest ≡ marked reply_mark more

some_due : (lines : List (List ℕ)) (next rest : List ℕ) → AllByRecursion IsLine lines →
    marked reply_mark lines ≡ next ++ (10 ∷ rest) → Lacks 10 next → IsDue lines next rest
some_due [] next rest h e lacks = absurd (omega (arith, ap length e, length-append next (10 ∷ rest)))
some_due (d ∷ more) next rest h e lacks =
    let front = h.0.0 in
    let cut = cut_exact 10 (reply_mark ++ front) next (marked reply_mark more) rest (mark_lacks front h.0.1) lacks
    (sym (due_begins d more h.0) ∙ e) in record {
      first = d;
      more = more;
      are = refl;
      fit = h.1;
      same = ap (λ t. reply_mark ++ t) h.0.2 ∙ sym (append_assoc reply_mark front line_end)
          ∙ ap (λ t. t ++ line_end) cut.0;
      left = sym cut.1;
    }

-- what stands behind a line that is due
pub rest_at : (xs next rest : List ℕ) (at : ℕ) → drop at xs ≡ next ++ (10 ∷ rest) →
    drop (length xs - length rest) xs ≡ rest
rest_at xs next rest at cut =
    let front = take at xs ++ (next ++ line_end) in
    let parts : xs ≡ front ++ rest =
    sym (take-append-drop at xs) ∙ ap (λ t. take at xs ++ t) (cut ∙ sym (append_assoc next line_end rest))
    ∙ sym (append_assoc (take at xs) (next ++ line_end) rest) in
    let len : length xs ≡ length front + length rest = ap length parts ∙ length-append front rest in
    ap (drop (length xs - length rest)) parts ∙ drop_at front rest (length xs - length rest) (omega (arith, len))

-- THE HEADER

pub header_taken : (v : Version) (n : ℕ) (due line : List ℕ) (s : Network) (p : Place) → IsAtStage Beginning n due s p →
    line ≡ header v → (q : Place) × Takes p line q × IsAtStage (Within v) n due s q
header_taken v n due line s p h is =
    let q = within v 0 nothing [] in
    (q, subst (λ x. Takes x line q) (sym h.0) (v, is, refl), ([], tt, h.3, (λ i. within v (sym h.2 i) (sym h.1 i) [])))

pub header_bad : (n : ℕ) (due line : List ℕ) (s : Network) (p : Place) → IsAtStage Beginning n due s p →
    ((v : Version) → line ≡ header v → ⊥) → (awaits_reply p ≡ false) × ((q : Place) → Takes p line q → ⊥)
header_bad n due line s p h other = (
  ap awaits_reply h.0,
  λ q takes. let said = subst (λ x. Takes x line q) h.0 takes in
      other said.0 said.1,
)

-- NOTHING

pub finished_bad : (n : ℕ) (due line : List ℕ) (s : Network) (p : Place) → IsAtStage Finished n due s p →
    (awaits_reply p ≡ false) × ((q : Place) → Takes p line q → ⊥)
finished_bad n due line s p h = (ap awaits_reply h, λ q takes. subst (λ x. Takes x line q) h takes)

-- A LINE OF A REPLY

pub due_taken : (v : Version) (n : ℕ) (due next rest line left : List ℕ) (s : Network) (p : Place) →
    IsAtStage (Within v) n due s p → due ≡ next ++ (10 ∷ rest) → Lacks 10 next → line ≡ next → left ≡ rest
    → (q : Place) × Takes p line q × IsAtStage (Within v) n left s q
due_taken v n due next rest line left s p h cut lacks is after =
    let d = some_due h.0 next rest h.1 (sym h.2 ∙ cut) lacks in
    let q = within v n s d.more in
    let place : p ≡ within v n s (d.first ∷ d.more) = h.3 ∙ ap (within v n s) d.are in (
      q,
      subst (λ x. Takes x line q) (sym place) (ap (λ t. t ++ line_end) is ∙ sym d.same, refl),
      (d.more, d.fit, after ∙ d.left, refl),
    )

pub due_differs : (v : Version) (n : ℕ) (due next rest line : List ℕ) (s : Network) (p : Place) →
    IsAtStage (Within v) n due s p → due ≡ next ++ (10 ∷ rest) → Lacks 10 next → (line ≡ next → ⊥)
    → (awaits_reply p ≡ true) × ((q : Place) → Takes p line q → ⊥)
due_differs v n due next rest line s p h cut lacks other =
    let d = some_due h.0 next rest h.1 (sym h.2 ∙ cut) lacks in
    let place : p ≡ within v n s (d.first ∷ d.more) = h.3 ∙ ap (within v n s) d.are in (
      ap awaits_reply place,
      λ q takes.
          other (append_cancel_right line next line_end ((subst (λ x. Takes x line q) place takes).0 ∙ d.same)),
    )

-- A CALL, OR THE END

between : (v : Version) (n : ℕ) (due : List ℕ) (s : Network) (p : Place) → IsAtStage (Within v) n due s p →
    Lacks 10 due → p ≡ within v n s []
between v n due s p h lacks = h.3 ∙ ap (within v n s) (no_due h.0 h.1 (subst (Lacks 10) h.2 lacks))

pub end_taken : (v : Version) (n : ℕ) (due line : List ℕ) (s : Network) (p : Place) → IsAtStage (Within v) n due s p →
    Lacks 10 due → line ≡ codes "end " ++ decimal n
    → (q : Place) × Takes p line q × IsAtStage Finished n due s q
end_taken v n due line s p h lacks is =
    let q = finished n in
    (q, subst (λ x. Takes x line q) (sym (between v n due s p h lacks)) (inr (is, refl)), refl)

pub between_bad : (v : Version) (n : ℕ) (due line : List ℕ) (s : Network) (p : Place) → IsAtStage (Within v) n due s p →
    Lacks 10 due → (line ≡ codes "end " ++ decimal n → ⊥) → Calls v line None
    → (awaits_reply p ≡ false) × ((q : Place) → Takes p line q → ⊥)
between_bad v n due line s p h lacks no_end no_call =
    let place = between v n due s p h lacks in (
      ap awaits_reply place,
      λ q takes. ⊎_elim (λ call. no_call call.0 call.1) (λ end. no_end end.0)
          (subst (λ x. Takes x line q) place takes),
    )

pub call_taken : (v : Version) (n : ℕ) (due line left : List ℕ) (s s' : Network) (p : Place) (event : Event) →
    IsAtStage (Within v) n due s p → Lacks 10 due → IsCallLine v line event → RepliesAreLines
    → left ≡ marked reply_mark (reply_lines (step s event).reply) → s' ≡ (step s event).next
    → (q : Place) × Takes p line q × IsAtStage (Within v) (n + 1) left s' q
call_taken v n due line left s s' p event h lacks call law after state =
    let lines = reply_lines (step s event).reply in
    let q = within v (n + 1) (step s event).next lines in (
      q,
      subst (λ x. Takes x line q) (sym (between v n due s p h lacks)) (inl (event, call, refl)),
      (lines, (law (step s event).reply).1, after, ap (λ t. within v (n + 1) t lines) (sym state)),
    )

pub call_wanting : (v : Version) (n : ℕ) (due line : List ℕ) (s : Network) (p : Place) →
    IsAtStage (Within v) n due s p → Lacks 10 due → (w : Version) × (event : Event)
    × IsCallLine w line event → IsCallAt p line
call_wanting v n due line s p h lacks call = (ap awaits_reply (between v n due s p h lacks), call.0, call.1, call.2)

-- memory was wanted
pub call_unread : {E : Type 0} (r : Result Checked E) (p : Place) (line : List ℕ) (c : Checker) (s : Network) →
    IsErr r → IsCallAt p line → IsChecked p line r c s
call_unread (Ok checked) p line c s err h = absurd (true≢false (sym err))
call_unread (Err e) p line c s err h = h
