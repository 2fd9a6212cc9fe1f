-- Workers between the start of their threads and the end.
use Rattle.std.proofs.Common.{◌≡◌, ℕ, ◌+◌, ◌%◌, List, [], ◌∷◌, ◌++◌, length, refl, sym, ap, subst, ◌∙◌, append_assoc, append-nil, arith}
use Rattle.std.proofs.lemmas.List.{length_push}
use Rattle.room.specs.Books.{SeatBook}
use Rattle.desk.specs.declared.worker_threads.Worker.{Worker}
use Rattle.desk.specs.Desks.{IsWorkedAt, AllWorkedFrom, AllWorked}
use Rattle.desk.specs.WorkerThreads.{IsToWork, AllToWork}
use Rattle.desk.proofs.Working.{all_worked_push, worked_same}

-- one worker more, at the place past the others
pub to_work_push : {L : Type 0} (shards turns place : ℕ) (xs : List SeatBook) (ws : List (Worker L)) (x : SeatBook)
    (w : Worker L) → AllToWork place shards turns xs ws → IsToWork (place + length xs) shards turns x w
    → AllToWork place shards turns (xs ++ x ∷ []) (ws ++ w ∷ [])
to_work_push shards turns place [] [] x w h p =
    let none : List SeatBook = [] in
    let here : place + length none ≡ place = omega arith in (subst (λ (n : ℕ). IsToWork n shards turns x w) here p, tt)
to_work_push shards turns place (a ∷ xs) (b ∷ ws) x w h p =
    let there : place + length (a ∷ xs) ≡ place + 1 + length xs = omega arith in
    (h.0, to_work_push shards turns (place + 1) xs ws x w h.1 (subst (λ (n : ℕ). IsToWork n shards turns x w) there p))
to_work_push shards turns place [] (b ∷ ws) x w h p = absurd h
to_work_push shards turns place (a ∷ xs) [] x w h p = absurd h

-- the seats of the first workers are back, and those of the others are to come
pub record Coming {L : Type 0} (shards turns : ℕ) (seats : List SeatBook) (workers : List (Worker L))
    (back : List SeatBook) : Type 0 where
  pub done : List SeatBook
  pub left : List SeatBook
  pub parts : seats ≡ done ++ left
  pub worked : AllWorked shards turns done back
  pub to_work : AllToWork (length done) shards turns left workers

pub coming_all : {L : Type 0} (shards turns : ℕ) (seats : List SeatBook) (workers : List (Worker L)) →
    AllToWork 0 shards turns seats workers → Coming shards turns seats workers []
coming_all shards turns seats workers all = record { done = []; left = seats; parts = refl; worked = tt; to_work = all }

next_of : {L : Type 0} (shards turns : ℕ) (seats done left : List SeatBook) (w : Worker L) (ws : List (Worker L))
    (back : List SeatBook) (seat : SeatBook) → seats ≡ done ++ left → AllWorked shards turns done back
    → AllToWork (length done) shards turns left (w ∷ ws) →
    ((place : ℕ) (x : SeatBook) → IsToWork place shards turns x w → IsWorkedAt place shards turns x seat)
    → Coming shards turns seats ws (back ++ seat ∷ [])
next_of shards turns seats done [] w ws back seat parts worked all joined = absurd all
next_of shards turns seats done (x ∷ left) w ws back seat parts worked all joined =
    let one : List SeatBook = x ∷ [] in
    let further : length done + 1 ≡ length (done ++ one) = sym (length_push done x) in
    record {
      done = done ++ one;
      left = left;
      parts = parts ∙ sym (append_assoc done one left);
      worked = all_worked_push shards turns (length done) done back x seat refl worked (joined (length done) x all.0);
      to_work = subst (λ (n : ℕ). AllToWork n shards turns left ws) further all.1;
    }

-- one seat more is back
pub coming_next : {L : Type 0} (shards turns : ℕ) (seats : List SeatBook) (w : Worker L) (ws : List (Worker L))
    (back : List SeatBook) (seat : SeatBook) → Coming shards turns seats (w ∷ ws) back
    → ((place : ℕ) (x : SeatBook) → IsToWork place shards turns x w → IsWorkedAt place shards turns x seat) →
    Coming shards turns seats ws (back ++ seat ∷ [])
coming_next shards turns seats w ws back seat so joined =
    next_of shards turns seats so.done so.left w ws back seat so.parts so.worked so.to_work joined

last_of : (L : Type 0) (shards turns : ℕ) (seats done left back : List SeatBook) → seats ≡ done ++ left →
    AllWorked shards turns done back → AllToWork {L = L} (length done) shards turns left [] →
    AllWorked shards turns seats back
last_of L shards turns seats done [] back parts worked none =
    subst (λ xs. AllWorked shards turns xs back) (sym (parts ∙ append-nil done)) worked
last_of L shards turns seats done (x ∷ left) back parts worked none = absurd none

-- all are back
pub coming_none : {L : Type 0} (shards turns : ℕ) (seats back : List SeatBook) →
    Coming {L = L} shards turns seats [] back → AllWorked shards turns seats back
coming_none shards turns seats back so = last_of _ shards turns seats so.done so.left back so.parts so.worked so.to_work

left_out_from : (shards turns place : ℕ) (seats : List SeatBook) → AllWorkedFrom place shards turns seats seats
left_out_from shards turns place [] = tt
left_out_from shards turns place (x ∷ seats) = (
  worked_same (place % shards) shards turns x x refl,
  left_out_from shards turns (place + 1) seats,
)

-- all are left out
pub all_left_out : (shards turns : ℕ) (seats : List SeatBook) → AllWorked shards turns seats seats
all_left_out shards turns seats = left_out_from shards turns 0 seats

pub ruleset rows = (all_left_out)
