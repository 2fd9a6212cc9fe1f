-- Whose calls a history holds, once each seat's notes are its calls in it.
use Rattle.std.proofs.Common.{◌≡◌, ℕ, ◌+◌, ◌-◌, ◌<◌, ◌≤◌, ◌%◌, zero, suc, List, [], ◌∷◌, ◌++◌, map, length, drop, refl, sym, ap, ◌∙◌, subst, arith}
use Rattle.std.specs.List.{AllZip}
use Rattle.std.specs.Str.Lines.{lines}
use Rattle.std.proofs.Math.Nat.{mod-eq_of_lt}
use Rattle.std.proofs.lemmas.List.{length_push, length-drop}
use Rattle.std.proofs.lemmas.List.Elements.{All-weaker}
use Rattle.sim_event.specs.declared.entry.Entry.{Entry}
use Rattle.sim_event.specs.declared.entry.Call.{Call}
use Rattle.reference_machine.specs.Histories.{calls_of}
use Rattle.room.specs.Books.{SeatBook, blank_seat, blank_seats}
use Rattle.room.specs.Closing.{Agrees, AllAgree}
use Rattle.desk.specs.Desks.{AllWorkedFrom, IsDeliveryOf, IsWorked}
use Rattle.team_run.specs.TeamRun.{AreCalled, AreOfScripts, AreOfWorkers, IsDeliveryTo, IsOfWorker}
use Rattle.team_run.specs.declared.told.ToldLine.{ToldLine}
use Rattle.team_run.specs.Playing.{AreBack, HasPlayed, PlayedBook, all_told, engineers_of}

-- ---- the seats of a new room

-- they are blank, and have the numbers from this one on
AreNumbered : ℕ → List SeatBook → Type 0
AreNumbered n [] = Unit {0}
AreNumbered n (seat ∷ seats) = (seat ≡ blank_seat n) × AreNumbered (n + 1) seats

pub length_blank : (n : ℕ) → length (blank_seats n) ≡ n
length_blank zero = refl
length_blank (suc n) = omega (arith, length_push (blank_seats n) (blank_seat n), length_blank n)

numbered_push : (n m : ℕ) (seats : List SeatBook) → m ≡ n + length seats → AreNumbered n seats →
    AreNumbered n (seats ++ blank_seat m ∷ [])
unfolding AreNumbered
numbered_push n m [] is all = let same : m ≡ n = omega arith in (ap blank_seat same, tt)
numbered_push n m (seat ∷ seats) is all = (all.0, numbered_push (n + 1) m seats (omega (arith, is)) all.1)

numbered : (n : ℕ) → AreNumbered 0 (blank_seats n)
unfolding AreNumbered
numbered zero = tt
numbered (suc n) = numbered_push 0 n (blank_seats n) (omega (arith, length_blank n)) (numbered n)

-- those behind the first k
numbered_behind : (n k : ℕ) (seats : List SeatBook) → k ≤ length seats → AreNumbered n seats →
    AreNumbered (n + k) (drop k seats)
unfolding AreNumbered
numbered_behind n zero seats enough all = subst (λ m. AreNumbered m seats) (omega arith) all
numbered_behind n (suc k) [] enough all = absurd (omega arith)
numbered_behind n (suc k) (seat ∷ seats) enough all = subst (λ m. AreNumbered m (drop k seats)) (omega arith)
    (numbered_behind (n + 1) k seats (omega arith) all.1)

-- ---- engineers who have played

-- one of them
of_script : (n : ℕ) (script : List ℕ) (blank : SeatBook) (played : PlayedBook) (history : List Entry)
    → blank ≡ blank_seat n → HasPlayed (record { file = n + 1; script = script; seat = blank }) played →
    Agrees history played.seat → AreCalled (n + 1) 1 (lines script) (calls_of n history) played.told
of_script n script blank played history is so agrees =
    let number : played.seat.number ≡ n = so.same ∙ ap (λ (s : SeatBook). s.number) is in
    let same : calls_of n history ≡ so.calls =
    ap (λ k. calls_of k history) (sym number) ∙ agrees ∙ so.noted
    ∙ ap (λ (s : SeatBook). s.notes ++ so.calls) is in
    subst (λ calls. AreCalled (n + 1) 1 (lines script) calls played.told) (sym same)
    (subst (λ told. AreCalled (n + 1) 1 (lines script) so.calls told) (sym so.behind) so.called)

of_scripts : (n : ℕ) (scripts : List (List ℕ)) (seats : List SeatBook) (came : List PlayedBook) (history : List Entry)
    → length scripts ≤ length seats → AreNumbered n seats → AllZip HasPlayed (engineers_of (n + 1) scripts seats) came
    → AllAgree history (map (λ (p : PlayedBook). p.seat) came) →
    AreOfScripts n scripts history (all_told (map (λ (p : PlayedBook). p.told) came))
unfolding AreNumbered
of_scripts n [] seats [] history enough all played agree = refl
of_scripts n [] seats (one ∷ came) history enough all played agree = absurd played
of_scripts n (script ∷ scripts) [] came history enough all played agree = absurd (omega arith)
of_scripts n (script ∷ scripts) (blank ∷ seats) [] history enough all played agree = absurd played
of_scripts n (script ∷ scripts) (blank ∷ seats) (one ∷ came) history enough all played agree = (
  one.told,
  all_told (map (λ (p : PlayedBook). p.told) came),
  refl,
  of_script n script blank one history all.0 played.0 agree.0,
  of_scripts (n + 1) scripts seats came history (omega arith) all.1 played.1 agree.1,
)

agree_behind : (history : List Entry) (front back : List SeatBook) → AllAgree history (front ++ back) →
    AllAgree history back
agree_behind history [] back agree = agree
agree_behind history (seat ∷ front) back agree = agree_behind history front back agree.1

-- ---- workers who have delivered

-- one of them
of_worker : (n shard shards turns : ℕ) (blank seat : SeatBook) (history : List Entry) → blank ≡ blank_seat n →
    IsWorked shard shards turns blank seat → Agrees history seat → IsOfWorker shard shards turns (calls_of n history)
of_worker n shard shards turns blank seat history is worked agrees =
    let number : seat.number ≡ n = worked.same ∙ ap (λ (s : SeatBook). s.number) is in
    let same : calls_of n history ≡ worked.calls =
    ap (λ k. calls_of k history) (sym number) ∙ agrees ∙ worked.goes_on
    ∙ ap (λ (s : SeatBook). s.notes ++ worked.calls) is in
    subst (λ calls. IsOfWorker shard shards turns calls) (sym same)
    (record {
      most = worked.most;
      deliveries = All-weaker (IsDeliveryOf shard shards) (IsDeliveryTo shard shards)
          (λ (call : Call) is. (is.from, is.to, is.delivers, is.of_shard)) worked.calls worked.deliveries;
    })

of_workers : (n place shards turns : ℕ) (seats came : List SeatBook) (history : List Entry)
    → AreNumbered n seats → AllWorkedFrom place shards turns seats came → AllAgree history came →
    (worker : ℕ) → worker < length seats →
    IsOfWorker ((place + worker) % shards) shards turns (calls_of (n + worker) history)
unfolding AreNumbered
of_workers n place shards turns [] came history all worked agree worker low = absurd (omega arith)
of_workers n place shards turns (blank ∷ seats) [] history all worked agree worker low = absurd worked
of_workers n place shards turns (blank ∷ seats) (seat ∷ came) history all worked agree zero low =
    let here : place ≡ place + 0 = omega arith in
    let same : n ≡ n + 0 = omega arith in
    subst (λ p. IsOfWorker (p % shards) shards turns (calls_of (n + 0) history)) here
    (subst (λ m. IsOfWorker (place % shards) shards turns (calls_of m history)) same
    (of_worker n (place % shards) shards turns blank seat history all.0 worked.0 agree.0))
of_workers n place shards turns (blank ∷ seats) (seat ∷ came) history all worked agree (suc worker) low =
    let there : (place + 1) + worker ≡ place + suc worker = omega arith in
    let same : (n + 1) + worker ≡ n + suc worker = omega arith in
    subst (λ p. IsOfWorker (p % shards) shards turns (calls_of (n + suc worker) history)) there
    (subst (λ m. IsOfWorker (((place + 1) + worker) % shards) shards turns (calls_of m history)) same
    (of_workers (n + 1) (place + 1) shards turns seats came history all.1 worked.1 agree.1 worker (omega arith)))

agree_before : (history : List Entry) (front back : List SeatBook) → AllAgree history (front ++ back) →
    AllAgree history front
agree_before history [] back agree = tt
agree_before history (seat ∷ front) back agree = (agree.0, agree_before history front back agree.1)

-- a team's workers came back, and each has its calls in the history
pub team_deliveries : (scripts : List (List ℕ)) (workers turns : ℕ) (blank came : List SeatBook)
    (told : List (List ToldLine)) (history : List Entry)
    → blank ≡ blank_seats (length scripts + workers)
    → AreBack workers turns (engineers_of 1 scripts blank) (drop (length scripts) blank) came told →
    AllAgree history came → AreOfWorkers (length scripts) workers turns history
team_deliveries scripts workers turns blank came told history is back agree = λ worker low.
    let engineers = length scripts in
    let all = blank_seats (engineers + workers) in
    let long : length all ≡ engineers + workers = length_blank (engineers + workers) in
    let left : length (drop engineers all) ≡ length all - engineers = length-drop engineers all in
    let within : worker < length (drop engineers all) = omega arith in
    let work = subst (λ seats. AllWorkedFrom 0 workers turns (drop engineers seats) back.worked) is back.work in
    let sits = numbered_behind 0 engineers all (omega arith) (numbered (engineers + workers)) in
    let agreed = agree_before history back.worked (map (λ (p : PlayedBook). p.seat) back.played)
    (subst (AllAgree history) back.together agree) in
    let own : IsOfWorker ((0 + worker) % workers) workers turns (calls_of ((0 + engineers) + worker) history) =
    of_workers (0 + engineers) 0 workers turns (drop engineers all) back.worked history sits work agreed worker within in
    let seat : (0 + engineers) + worker ≡ engineers + worker = omega arith in
    let place : (0 + worker) % workers ≡ worker = ap (λ p. p % workers) (omega arith) ∙ mod-eq_of_lt low in
    subst (λ shard. IsOfWorker shard workers turns (calls_of (engineers + worker) history)) place
    (subst (λ m. IsOfWorker ((0 + worker) % workers) workers turns (calls_of m history)) seat own)

-- ---- both

-- a team's seats came back, and each has its calls in the history
pub team_history : (n shards turns : ℕ) (scripts : List (List ℕ)) (blank workers came : List SeatBook)
    (told : List (List ToldLine)) (history : List Entry)
    → blank ≡ blank_seats n → length scripts ≤ n
    → AreBack shards turns (engineers_of 1 scripts blank) workers came told →
    AllAgree history came → AreOfScripts 0 scripts history (all_told told)
team_history n shards turns scripts blank workers came told history is enough back agree =
    let played : AllZip HasPlayed (engineers_of 1 scripts (blank_seats n)) back.played =
    subst (λ seats. AllZip HasPlayed (engineers_of 1 scripts seats) back.played) is back.play in
    subst (λ all. AreOfScripts 0 scripts history (all_told all)) (sym back.lines)
    (of_scripts 0 scripts (blank_seats n) back.played history (omega (arith, length_blank n)) (numbered n) played
    (agree_behind history back.worked (map (λ (p : PlayedBook). p.seat) back.played)
    (subst (AllAgree history) back.together agree)))
