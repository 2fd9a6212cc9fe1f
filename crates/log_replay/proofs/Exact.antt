-- Which logs agree: those of legal histories, and no other.
use Rattle.std.proofs.Common.{◌≡◌, ◌≢◌, ℕ, ◌+◌, ◌<◌, ◌≤◌, inl, inr, ⊎_elim, List, [], ◌∷◌, ◌++◌, length, get_or, codes, Ok, Err, Result, refl, sym, ap, ◌∙◌, subst, arith, append_assoc, append-nil}
use Rattle.std.specs.Fmt.{decimal}
use Rattle.std.specs.List.{flat_map, join_with_byte, AllByRecursion}
use Rattle.std.proofs.lemmas.Bool.{true≢false}
use Rattle.std.proofs.lemmas.List.{length-append}
use Rattle.std.proofs.lemmas.List.Elements.{All-nil, All-cons, All-head, All-tail, All-append}
use Rattle.decimal.specs.Digits.{IsDigit}
use Rattle.decimal.specs.Separators.{Lacks, not_lacks, cut_exact, decimal_lacks}
use Rattle.sim_event.specs.declared.event.Event.{Event}
use Rattle.sim_event.specs.declared.entry.Entry.{Entry}
use Rattle.sim_event.specs.Events.{IsEvent}
use Rattle.reference_machine.specs.Network.{Network}
use Rattle.reference_machine.specs.Machine.{nothing, step}
use Rattle.reference_machine.specs.Histories.{AreAnswered}
use Rattle.command_text.specs.Words.{words_of}
use Rattle.command_text.specs.Spelling.{OneMeaning}
use Rattle.reply_text.specs.Replies.{line_end, end_line}
use Rattle.reply_text.specs.Lines.{marked, reply_lines, IsLine, RepliesAreLines}
use Rattle.reply_text.specs.Visible.{visible_lacks}
use Rattle.log_text.specs.declared.version.Version.{Version}
use Rattle.log_text.specs.declared.version.Version.TheVariants.{One, Two}
use Rattle.log_text.specs.Versions.{header}
use Rattle.log_text.specs.Logs.{command_text, call_line, reply_mark, entry_text, log_of}
use Rattle.watched.specs.Streams.{Reading}
use Rattle.log_replay.specs.declared.verdict.Replayed.{Replayed}
use Rattle.log_replay.specs.declared.verdict.Replayed.TheVariants.{Agrees, Differs, BadLine}
use Rattle.log_replay.specs.declared.verdict.ReplayFault.{ReplayFault}
use Rattle.log_replay.specs.declared.verdict.ReplayFault.TheVariants.{Read, TooManyLines, Memory}
use Rattle.log_replay.specs.Replaying.{Place, beginning, within, finished, is_finished, IsCall, IsCallLine, Takes, TakesAll, IsFit, Stands, lines_text, IsRefused, IsTooLong, IsCutOff, IsReplay, most_lines}
use Rattle.log_replay.specs.Exactness.{IsLogged, IsLogOf, IsProof, IsFair}
use Rattle.log_replay.proofs.Words.{AreSolid, literal, spelled}
use Rattle.log_replay.proofs.Versions.{same_event}
use Rattle.log_replay.proofs.Checking.{due_begins, mark_lacks}

-- PLACES

abbrev count_of : Place → ℕ
count_of beginning = 0
count_of (within v n s due) = n
count_of (finished n) = n

not_within : (v : Version) (n m : ℕ) (s : Network) (due : List (List ℕ)) → finished m ≡ within v n s due → ⊥
not_within v n m s due e = true≢false (ap is_finished e)

not_beginning : (m : ℕ) → finished m ≡ beginning → ⊥
not_beginning m e = true≢false (ap is_finished e)

-- nothing comes after the end
ends : (n m : ℕ) (more : List (List ℕ)) → TakesAll (finished n) more (finished m) → (more ≡ []) × (m ≡ n)
ends n m [] h = (refl, ap count_of h)
ends n m (l ∷ ls) h = absurd h.1

abbrev AreCalls : Version → List Entry → Type 0
AreCalls v h = AllByRecursion (λ e. IsCall v e.seat e.event) h

-- ONLY THE LOG OF A LEGAL HISTORY AGREES

-- the lines are what is due, the calls of a history from here on, and the end
record Tells (v : Version) (n m : ℕ) (s : Network) (due ls : List (List ℕ)) : Type 0 where
  history : List Entry
  answered : AreAnswered s history
  calls : AreCalls v history
  count : n + length history ≡ m
  text : lines_text ls ≡ marked reply_mark due ++ (flat_map entry_text history ++ end_line m)

regroup : (a m f e : List ℕ) → a ++ (m ++ (f ++ e)) ≡ ((a ++ m) ++ f) ++ e
regroup a m f e = sym (append_assoc a m (f ++ e)) ∙ sym (append_assoc (a ++ m) f e)

tells : (v : Version) (n m : ℕ) (s : Network) (due ls : List (List ℕ)) → TakesAll (within v n s due) ls (finished m) →
    Tells v n m s due ls
unfolding entry_text
tells v n m s due [] h = absurd (not_within v n m s due h)
tells v n m s (d ∷ ds) (line ∷ more) h =
    let t = tells v n m s ds more (subst (λ x. TakesAll x more (finished m)) h.1.1 h.2) in
    let rest = flat_map entry_text t.history ++ end_line m in record {
      history = t.history;
      answered = t.answered;
      calls = t.calls;
      count = t.count;
      text = ap (λ x. x ++ lines_text more) h.1.0 ∙ ap (λ x. (reply_mark ++ d) ++ x) t.text
          ∙ sym (append_assoc (reply_mark ++ d) (marked reply_mark ds) rest);
    }
tells v n m s [] (line ∷ more) h = ⊎_elim
    (λ c.
    let next = step s c.0 in
    let lines = reply_lines next.reply in
    let t = tells v (n + 1) m next.next lines more (subst (λ x. TakesAll x more (finished m)) c.2 h.2) in
    let call = call_line c.1.0 c.0 in record {
      history = record { seat = c.1.0; event = c.0; reply = next.reply } ∷ t.history;
      answered = (refl, t.answered);
      calls = (c.1.1, t.calls);
      count = omega (arith, t.count);
      text = ap (λ x. (x ++ line_end) ++ lines_text more) c.1.2 ∙ ap (λ x. (call ++ line_end) ++ x) t.text
          ∙ regroup (call ++ line_end) (marked reply_mark lines) (flat_map entry_text t.history) (end_line m);
    })
    (λ d.
    let last = ends n m more (subst (λ x. TakesAll x more (finished m)) d.1 h.2) in record {
      history = [];
      answered = tt;
      calls = tt;
      count = omega (arith, last.1);
      text = ap (λ x. (x ++ line_end) ++ lines_text more) d.0
          ∙ ap (λ x. ((codes "end " ++ decimal n) ++ line_end) ++ lines_text x) last.0
          ∙ append-nil ((codes "end " ++ decimal n) ++ line_end) ∙ ap end_line (sym last.1);
    })
    h.1

-- the lines of a log
record IsHistory (ls : List (List ℕ)) (n : ℕ) : Type 0 where
  version : Version
  history : List Entry
  logged : IsLogged version history
  count : length history ≡ n
  text : lines_text ls ≡ log_of version history

told : (ls : List (List ℕ)) (n : ℕ) → TakesAll beginning ls (finished n) → IsHistory ls n
told [] n h = absurd (not_beginning n h)
told (line ∷ more) n h =
    let v = h.1.0 in
    let t = tells v 0 n nothing [] more (subst (λ x. TakesAll x more (finished n)) h.1.2 h.2) in
    let same : length t.history ≡ n = omega (arith, t.count) in record {
      version = v;
      history = t.history;
      logged = (t.answered, t.calls);
      count = same;
      text = ap (λ x. (x ++ line_end) ++ lines_text more) h.1.1 ∙ ap (λ x. (header v ++ line_end) ++ x) t.text
          ∙ sym (append_assoc (header v ++ line_end) (flat_map entry_text t.history) (end_line n))
          ∙ ap (λ k. header v ++ line_end ++ flat_map entry_text t.history ++ end_line k) (sym same);
    }

sound_end : (bytes : List ℕ) (k n : ℕ) → Stands bytes [] k (finished n) → IsLogOf bytes n
sound_end bytes k n so =
    let t = told so.done n so.taken in
    let whole : bytes ≡ lines_text so.done = so.parts ∙ append-nil (lines_text so.done) in
    (t.version, t.history, t.logged, t.count, whole ∙ t.text, (so.done, whole, so.fit, omega (arith, so.count, so.few)))

pub sound : (bytes : List ℕ) (r : Result Replayed ReplayFault) (i : Reading) → IsReplay bytes r i → IsProof bytes r
sound bytes (Ok (Agrees n)) i h = sound_end bytes h.0 n h.1
sound bytes (Ok (Differs line)) i h = tt
sound bytes (Ok (BadLine line)) i h = tt
sound bytes (Err fault) i h = tt

-- EACH SUCH LOG AGREES

-- no line feed stands in a line of a call
joined_lacks : (words : List (List ℕ)) → AreSolid words → Lacks 10 (join_with_byte 32 words)
joined_lacks [] h = All-nil (λ b. b ≢ 10)
joined_lacks (w ∷ []) h = visible_lacks 10 (λ over. omega arith) w h.0.1
joined_lacks (w ∷ v ∷ more) h =
    All-append (λ b. b ≢ 10) w (32 ∷ join_with_byte 32 (v ∷ more)) (visible_lacks 10 (λ over. omega arith) w h.0.1)
    (All-cons (λ b. b ≢ 10) 32 (join_with_byte 32 (v ∷ more)) (λ e. omega (arith, e)) (joined_lacks (v ∷ more) h.1))

feed_is_none : IsDigit 10 → ⊥
feed_is_none digit = omega arith

call_lacks : (seat : ℕ) (e : Event) → IsEvent e → Lacks 10 (call_line seat e)
call_lacks seat e is =
    All-append (λ b. b ≢ 10) ((codes "@" ++ decimal seat) ++ (32 ∷ [])) (command_text e)
    (All-append (λ b. b ≢ 10) (codes "@" ++ decimal seat) (32 ∷ [])
    (All-cons (λ b. b ≢ 10) 64 (decimal seat) (λ x. omega (arith, x)) (decimal_lacks 10 feed_is_none seat))
    (All-cons (λ b. b ≢ 10) 32 [] (λ x. omega (arith, x)) (All-nil (λ b. b ≢ 10))))
    (joined_lacks (words_of e) (spelled e is).solid)

end_lacks : (n : ℕ) → Lacks 10 (codes "end " ++ decimal n)
end_lacks n =
    All-cons (λ b. b ≢ 10) 101 (codes "nd " ++ decimal n) (λ x. omega (arith, x))
    (All-cons (λ b. b ≢ 10) 110 (codes "d " ++ decimal n) (λ x. omega (arith, x))
    (All-cons (λ b. b ≢ 10) 100 (codes " " ++ decimal n) (λ x. omega (arith, x))
    (All-cons (λ b. b ≢ 10) 32 (decimal n) (λ x. omega (arith, x)) (decimal_lacks 10 feed_is_none n))))

-- a line at the head of the text
line_cut : (line first rest after : List ℕ) → Lacks 10 line → Lacks 10 first →
    (line ++ line_end) ++ rest ≡ first ++ (10 ∷ after) → (line ≡ first) × (rest ≡ after)
line_cut line first rest after h g e = cut_exact 10 line first rest after h g (sym (append_assoc line line_end rest)
    ∙ e)

no_lines : (ls : List (List ℕ)) → lines_text ls ≡ [] → ls ≡ []
no_lines [] e = refl
no_lines (l ∷ ls) e = absurd (omega (
  arith,
  ap length e,
  length-append (l ++ line_end) (lines_text ls),
  length-append l line_end,
))

some_end : (front : List ℕ) (m : ℕ) → front ++ end_line m ≡ [] → ⊥
some_end front m e = omega (arith, ap length e, length-append front (end_line m))

takes_log : (v : Version) (ls due : List (List ℕ)) (h : List Entry) (s : Network) (n m : ℕ) → RepliesAreLines →
    AllByRecursion IsFit ls → AllByRecursion IsLine due → AreAnswered s h → AreCalls v h → n + length h ≡ m
    → lines_text ls ≡ marked reply_mark due ++ (flat_map entry_text h ++ end_line m) →
    TakesAll (within v n s due) ls (finished m)
unfolding entry_text
takes_log v [] due h s n m law fit are answered calls count e =
    let rest = flat_map entry_text h in
    absurd (some_end (marked reply_mark due ++ rest) m (append_assoc (marked reply_mark due) rest (end_line m) ∙ sym e))
takes_log v (line ∷ more) (d ∷ ds) h s n m law fit are answered calls count e =
    let rest = flat_map entry_text h ++ end_line m in
    let front = are.0.0 in
    let head = ap (λ t. t ++ rest) (due_begins d ds are.0)
    ∙ append_assoc (reply_mark ++ front) (10 ∷ marked reply_mark ds) rest in
    let cut = line_cut line (reply_mark ++ front) (lines_text more) (marked reply_mark ds ++ rest) fit.0.0
    (mark_lacks front are.0.1) (e ∙ head) in (
      within v n s ds,
      (
        ap (λ t. t ++ line_end) cut.0 ∙ append_assoc reply_mark front line_end
            ∙ ap (λ t. reply_mark ++ t) (sym are.0.2),
        refl,
      ),
      takes_log v more ds h s n m law fit.1 are.1 answered calls count cut.1,
    )
takes_log v (line ∷ more) [] (x ∷ xs) s n m law fit are answered calls count e =
    let call = call_line x.seat x.event in
    let next = step s x.event in
    let rest = flat_map entry_text xs ++ end_line m in
    let head = sym (regroup (call ++ line_end) (marked reply_mark (reply_lines x.reply)) (flat_map entry_text xs)
    (end_line m)) ∙ append_assoc call line_end (marked reply_mark (reply_lines x.reply) ++ rest) in
    let cut = line_cut line call (lines_text more) (marked reply_mark (reply_lines x.reply) ++ rest) fit.0.0
    (call_lacks x.seat x.event calls.0.1) (e ∙ head) in (
      within v (n + 1) next.next (reply_lines next.reply),
      inl (x.event, (x.seat, calls.0, cut.0), refl),
      takes_log v more (reply_lines next.reply) xs next.next (n + 1) m law fit.1 (law next.reply).1 answered.1 calls.1
          (omega (arith, count))
          (cut.1 ∙ ap (λ r. marked reply_mark (reply_lines r) ++ rest) answered.0),
    )
takes_log v (line ∷ more) [] [] s n m law fit are answered calls count e =
    let cut = line_cut line (codes "end " ++ decimal m) (lines_text more) [] fit.0.0 (end_lacks m) e in
    let same : n ≡ m = omega (arith, count) in
    let none : more ≡ [] = no_lines more cut.1 in (
      finished n,
      inr (cut.0 ∙ ap (λ k. codes "end " ++ decimal k) (sym same), refl),
      subst (λ t. TakesAll (finished n) t (finished m)) (sym none) (ap finished (sym same)),
    )

header_lacks : (v : Version) → Lacks 10 (header v)
header_lacks One = joined_lacks (codes "bgpsim" ∷ codes "log" ∷ codes "1" ∷ []) (
  literal (codes "bgpsim") refl refl,
  (literal (codes "log") refl refl, (literal (codes "1") refl refl, tt)),
)
header_lacks Two = joined_lacks (codes "bgpsim" ∷ codes "log" ∷ codes "2" ∷ []) (
  literal (codes "bgpsim") refl refl,
  (literal (codes "log") refl refl, (literal (codes "2") refl refl, tt)),
)

-- the lines of the log of a legal history lead to its end
leads : (v : Version) (ls : List (List ℕ)) (h : List Entry) (n : ℕ) → RepliesAreLines → AllByRecursion IsFit ls →
    IsLogged v h → length h ≡ n → lines_text ls ≡ log_of v h → TakesAll beginning ls (finished n)
leads v [] h n law fit logged count e =
    absurd (some_end ((header v ++ line_end) ++ flat_map entry_text h) (length h) (sym e))
leads v (line ∷ more) h n law fit logged count e =
    let text = flat_map entry_text h in
    let head = append_assoc (header v ++ line_end) text (end_line (length h))
    ∙ append_assoc (header v) line_end (text ++ end_line (length h)) in
    let cut = line_cut line (header v) (lines_text more) (text ++ end_line (length h)) fit.0.0 (header_lacks v) (e
    ∙ head) in (
      within v 0 nothing [],
      (v, cut.0, refl),
      takes_log v more [] h nothing 0 n law fit.1 tt logged.0 logged.1 (omega (arith, count)) (cut.1
          ∙ ap (λ k. text ++ end_line k) count),
    )

-- a header names one version
same_version : (v w : Version) → header v ≡ header w → v ≡ w
same_version One One e = refl
same_version One Two e = let last : ◌≡◌ {A = ℕ} 49 50 = ap (λ t. get_or t 11 0) e in absurd (omega (arith, last))
same_version Two One e = let last : ◌≡◌ {A = ℕ} 50 49 = ap (λ t. get_or t 11 0) e in absurd (omega (arith, last))
same_version Two Two e = refl

call_is_no_end : (line rest more : List ℕ) → line ≡ 64 ∷ rest → line ≡ 101 ∷ more → ⊥
call_is_no_end line rest more a b = let both : 64 ∷ rest ≡ 101 ∷ more = sym a ∙ b in let heads : ◌≡◌ {A = ℕ} 64 101 =
    cc in omega (arith, heads)

no_call : (v : Version) (line : List ℕ) (e : Event) (n : ℕ) → IsCallLine v line e → line ≡ codes "end " ++ decimal n → ⊥
no_call v line e n call end = call_is_no_end line ((decimal call.0 ++ codes " ") ++ command_text e)
    (110 ∷ 100 ∷ 32 ∷ decimal n) call.2 end

-- a line leads from a place to one place alone
same_place : OneMeaning → (p : Place) (line : List ℕ) (q r : Place) → Takes p line q → Takes p line r → q ≡ r
same_place law beginning line q r a b =
    let same : a.0 ≡ b.0 = same_version a.0 b.0 (sym a.1 ∙ b.1) in
    a.2 ∙ ap (λ v. within v 0 nothing []) same ∙ sym b.2
same_place law (within v n s []) line q r a b = ⊎_elim
    (λ c. ⊎_elim
    (λ d. c.2 ∙ ap (λ e. within v (n + 1) (step s e).next (reply_lines (step s e).reply))
    (same_event law v v line c.0 d.0 c.1 d.1) ∙ sym d.2)
    (λ d. absurd (no_call v line c.0 n c.1 d.0))
    b)
    (λ c. ⊎_elim
    (λ d. absurd (no_call v line d.0 n d.1 c.0))
    (λ d. c.1 ∙ sym d.1)
    b)
    a
same_place law (within v n s (due ∷ more)) line q r a b = a.1 ∙ sym b.1
same_place law (finished n) line q r a b = absurd a

-- lines that agree to the end, after those that bring the log to a place
record Ahead (q f : Place) (left : List ℕ) (done ls : List (List ℕ)) : Type 0 where
  rest : List (List ℕ)
  fit : AllByRecursion IsFit rest
  text : left ≡ lines_text rest
  count : length ls ≡ length done + length rest
  taken : TakesAll q rest f

ahead : OneMeaning → (done ls : List (List ℕ)) (left : List ℕ) (p q f : Place) → AllByRecursion IsFit done →
    AllByRecursion IsFit ls → lines_text done ++ left ≡ lines_text ls → TakesAll p done q → TakesAll p ls f →
    Ahead q f left done ls
ahead law [] ls left p q f hd hl e a b = record {
  rest = ls;
  fit = hl;
  text = e;
  count = omega arith;
  taken = subst (λ x. TakesAll x ls f) (sym a) b;
}
ahead law (d ∷ ds) [] left p q f hd hl e a b =
    absurd (omega (
      arith,
      ap length e,
      length-append ((d ++ line_end) ++ lines_text ds) left,
      length-append (d ++ line_end) (lines_text ds),
      length-append d line_end,
    ))
ahead law (d ∷ ds) (l ∷ more) left p q f hd hl e a b =
    let text = append_assoc (d ++ line_end) (lines_text ds) left in
    let cut = line_cut d l (lines_text ds ++ left) (lines_text more) hd.0.0 hl.0.0 (sym text ∙ e
    ∙ append_assoc l line_end (lines_text more)) in
    let same : a.0 ≡ b.0 = same_place law p d a.0 b.0 a.1 (subst (λ x. Takes p x b.0) (sym cut.0) b.1) in
    let later = ahead law ds more left a.0 q f hd.1 hl.1 cut.1 a.2 (subst (λ x. TakesAll x more f) (sym same) b.2) in
    record {
      rest = later.rest;
      fit = later.fit;
      text = later.text;
      count = omega (arith, later.count);
      taken = later.taken;
    }

-- what is ahead at a place that replaying has come to
log_ahead : OneMeaning → RepliesAreLines → (bytes left : List ℕ) (k n : ℕ) (p : Place) → Stands bytes left k p →
    (log : IsLogOf bytes n) → (rest : List (List ℕ)) × AllByRecursion IsFit rest × (left ≡ lines_text rest)
    × (k + length rest ≤ most_lines) × TakesAll p rest (finished n)
log_ahead law lines bytes left k n p so log =
    let ls = log.5.0 in
    let a = ahead law so.done ls left beginning p (finished n) so.fit log.5.2 (sym so.parts ∙ log.5.1) so.taken
    (leads log.0 ls log.1 n lines log.5.2 log.2 log.3 (sym log.5.1 ∙ log.4)) in
    (a.rest, a.fit, a.text, omega (arith, a.count, so.count, log.5.3), a.taken)

-- the next line may stand there
not_refused : (left : List ℕ) (p f : Place) (rest : List (List ℕ)) → AllByRecursion IsFit rest →
    left ≡ lines_text rest → TakesAll p rest f → IsRefused p left → ⊥
not_refused left p f [] fit e t h = omega (arith, ap length (sym e ∙ h.1.1), length-append h.0 (10 ∷ h.1.0))
not_refused left p f (l ∷ more) fit e t h =
    let cut = line_cut l h.0 (lines_text more) h.1.0 fit.0.0 h.1.2.0 (sym e ∙ h.1.1) in
    h.2 t.0 (subst (λ x. Takes p x t.0) cut.0 t.1)

-- and is not too long
before_feed : (l front after rest : List ℕ) → Lacks 10 front → l ++ (10 ∷ after) ≡ front ++ rest →
    length front ≤ length l
before_feed l [] after rest h e = omega arith
before_feed [] (b ∷ bs) after rest h e = absurd (All-head (λ x. x ≢ 10) b bs h (cc))
before_feed (c ∷ cs) (b ∷ bs) after rest h e =
    let tails : cs ++ (10 ∷ after) ≡ bs ++ rest = cc in
    omega (arith, before_feed cs bs after rest (All-tail (λ x. x ≢ 10) b bs h) tails)

not_long : (left : List ℕ) (rest : List (List ℕ)) → AllByRecursion IsFit rest →
    left ≡ lines_text rest → IsTooLong left → ⊥
not_long left [] fit e h = omega (arith, ap length (sym e ∙ h.2), length-append h.0 h.1, h.4)
not_long left (l ∷ more) fit e h =
    omega (
      arith,
      before_feed l h.0 (lines_text more) h.1 h.3 (sym (append_assoc l line_end (lines_text more)) ∙ sym e
          ∙ h.2),
      h.4,
      fit.0.1,
    )

-- and is there whole
not_cut : (left : List ℕ) (p : Place) (n : ℕ) (rest : List (List ℕ)) → left ≡ lines_text rest →
    TakesAll p rest (finished n) → IsCutOff p left → ⊥
not_cut left p n [] e t h = let some = h.1 (ap is_finished (sym t)) in omega (arith, ap length e, some)
not_cut left p n (l ∷ more) e t h =
    not_lacks 10 l (lines_text more) (subst (Lacks 10) (e ∙ append_assoc l line_end (lines_text more)) h.0)

fair_verdict : OneMeaning → RepliesAreLines → (bytes : List ℕ) (v : Replayed) (i : Reading) (n : ℕ) →
    IsReplay bytes (Ok v) i → IsLogOf bytes n → v ≡ Agrees n
fair_verdict law lines bytes (Agrees m) i n h log =
    let a = log_ahead law lines bytes [] h.0 n (finished m) h.1 log in
    let none : a.0 ≡ [] = no_lines a.0 (sym a.2) in
    ap (λ p. Agrees (count_of p)) (sym (subst (λ t. TakesAll (finished m) t (finished n)) none a.4))
fair_verdict law lines bytes (Differs line) i n h log =
    let a = log_ahead law lines bytes h.2 h.0 n h.1 h.3 log in
    absurd (not_refused h.2 h.1 (finished n) a.0 a.1 a.2 a.4 h.7)
fair_verdict law lines bytes (BadLine line) i n h log =
    let a = log_ahead law lines bytes h.2 h.0 n h.1 h.3 log in
    absurd (⊎_elim
    (λ refused. not_refused h.2 h.1 (finished n) a.0 a.1 a.2 a.4 refused.1)
    (λ other. ⊎_elim (λ long. not_long h.2 a.0 a.1 a.2 long) (λ cut. not_cut h.2 h.1 n a.0 a.2 a.4 cut) other)
    h.6)

length_none : (ls : List (List ℕ)) → length ls ≤ 0 → ls ≡ []
length_none [] h = refl
length_none (l ∷ ls) h = absurd (omega (arith, h))

not_many : OneMeaning → RepliesAreLines → (bytes left : List ℕ) (n : ℕ) (p : Place) → Stands bytes left most_lines p →
    0 < length left → IsLogOf bytes n → ⊥
not_many law lines bytes left n p so some log =
    let a = log_ahead law lines bytes left most_lines n p so log in
    let none : a.0 ≡ [] = length_none a.0 (omega (arith, a.3)) in
    let nothing_left : left ≡ [] = a.2 ∙ ap lines_text none in
    omega (arith, ap length nothing_left, some)

pub fair : OneMeaning → RepliesAreLines → (bytes : List ℕ) (r : Result Replayed ReplayFault) (i : Reading) →
    IsReplay bytes r i → IsFair bytes r
fair law lines bytes (Ok v) i h = λ n log. fair_verdict law lines bytes v i n h log
fair law lines bytes (Err (Read line)) i h = tt
fair law lines bytes (Err TooManyLines) i h = λ n log. not_many law lines bytes h.1 n h.0 h.2 h.3 log
fair law lines bytes (Err Memory) i h = tt
