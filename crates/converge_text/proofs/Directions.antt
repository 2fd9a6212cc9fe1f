-- Directions that are listed one by one.
use Rattle.std.proofs.Common.{◌≡◌, ℕ, ◌+◌, min, true, not, List, [], ◌∷◌, ◌++◌, Option, Some, None, Result, Ok, refl, sym, ap, ◌∙◌, subst, arith, append-nil, append_assoc}
use Rattle.std.specs.List.{flat_map}
use Rattle.std.proofs.lemmas.Bool.{true≢false}
use Rattle.std.proofs.lemmas.List.{length_push}
use Rattle.net_prefix.specs.declared.addr.Addr.{Addr}
use Rattle.session_queue.specs.declared.message.Message.{Message}
use Rattle.watched.specs.Streams.{Writing, Writes}
use Rattle.watched.specs.Writing.{writes_none}
use Rattle.watched.specs.declared.sink.WriterFailed.{WriterFailed}
use Rattle.reference_machine.specs.Network.{Network}
use Rattle.reference_machine.specs.Reports.{is_empty}
use Rattle.reply_text.specs.Replies.{end_line}
use Rattle.convergence.specs.declared.waiting.Queued.{Queued}
use Rattle.convergence.specs.Waiting.{on_way, queued_of, IsNextWaiting}
use Rattle.converge_text.specs.Answers.{maybe_queued_text, queued_text, waiting_line, AreListed, AreWaiting}
use Rattle.converge_text.specs.Listings.{AreListedTo}

abbrev Written : Type 0
Written = Result (Unit {0}) WriterFailed

some_waits : (ms : List Message) → not (is_empty ms) ≡ true → queued_of ms ≡ None → ⊥
some_waits [] w none = true≢false (sym w)
some_waits (m ∷ ms) w none = cc

-- something waits in a direction that was found
pub found_waits : (s : Network) (past : Option (Addr × Addr)) (from to : Addr) →
    IsNextWaiting s past (Some (from, to)) → queued_of (on_way s from to) ≡ None → ⊥
found_waits s past from to next none = some_waits (on_way s from to) next.waiting none

lines_more : (s : Network) (ds es : List (Addr × Addr)) →
    flat_map (waiting_line s) (ds ++ es) ≡ flat_map (waiting_line s) ds ++ flat_map (waiting_line s) es
lines_more s [] es = refl
lines_more s (d ∷ ds) es = ap (λ t. waiting_line s d ++ t) (lines_more s ds es)
    ∙ sym (append_assoc (waiting_line s d) (flat_map (waiting_line s) ds) (flat_map (waiting_line s) es))

pub none_listed : (s : Network) (o : Writing) (u : Unit {0}) → AreListedTo s None 0 o (Ok u) o
none_listed s o u = record {
  directions = [];
  onward = λ rest h. h;
  count_is = omega arith;
  lines = writes_none {E = WriterFailed} o (let r : Written = Ok u in r) u refl;
}

pub one_listed : (s : Network) (past : Option (Addr × Addr)) (count : ℕ) (o : Writing) (w : Written) (om : Writing)
    (from to : Addr) (queued : Queued) (count' : ℕ) (w' : Written) (o' : Writing) →
    IsNextWaiting s past (Some (from, to)) → queued_of (on_way s from to) ≡ Some queued →
    count' ≡ min (count + 1) 18446744073709551615 →
    ((old : Writing) (text : List ℕ) → Writes old text w om → Writes old (text ++ queued_text from to queued) w' o') →
    AreListedTo s past count o w om → AreListedTo s (Some (from, to)) count' o w' o'
one_listed s past count o w om from to queued count' w' o' next is more writes so_far =
    let ds = so_far.directions in
    let d : Addr × Addr = (from, to) in
    let line : flat_map (waiting_line s) (d ∷ []) ≡ queued_text from to queued =
    append-nil (waiting_line s d) ∙ ap (maybe_queued_text from to) is in
    record {
      directions = ds ++ d ∷ [];
      onward = λ rest h. subst (λ (xs : List (Addr × Addr)). AreWaiting s None xs)
          (sym (append_assoc ds (d ∷ []) rest)) (so_far.onward (d ∷ rest) (next, h));
      count_is = omega (arith, more, so_far.count_is, length_push ds d);
      lines = subst (λ text. Writes o text w' o')
          (sym (lines_more s ds (d ∷ []) ∙ ap (λ t. flat_map (waiting_line s) ds ++ t) line))
          (writes o (flat_map (waiting_line s) ds) so_far.lines);
    }

pub all_listed : (s : Network) (past : Option (Addr × Addr)) (count : ℕ) (o : Writing) (w : Written) (om : Writing)
    (r : Written) (o' : Writing) → IsNextWaiting s past None →
    ((old : Writing) (text : List ℕ) → Writes old text w om → Writes old (text ++ end_line count) r o') →
    AreListedTo s past count o w om → (answer : List ℕ) × AreListed s answer × Writes o answer r o'
all_listed s past count o w om r o' next writes so_far =
    let ds = so_far.directions in (
      flat_map (waiting_line s) ds ++ end_line count,
      (
        ds,
        subst (λ (xs : List (Addr × Addr)). AreWaiting s None xs) (append-nil ds) (so_far.onward [] next),
        ap (λ n. flat_map (waiting_line s) ds ++ end_line n) so_far.count_is,
      ),
      writes o (flat_map (waiting_line s) ds) so_far.lines,
    )
