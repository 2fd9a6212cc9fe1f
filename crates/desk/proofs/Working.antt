-- What workers make of their seats.
use Rattle.std.proofs.Common.{◌≡◌, ℕ, ◌+◌, ◌≤◌, ◌%◌, List, [], ◌∷◌, ◌++◌, length, All, Result, Ok, Err, OnOk, OnErr, refl, sym, ap, subst, ◌∙◌, append_assoc, append-nil, length-append, arith}
use Rattle.std.proofs.lemmas.List.Elements.{All-nil, All-cons, All-head, All-tail, All-append, All-weaker}
use Rattle.sim_event.specs.declared.entry.Call.{Call}
use Rattle.room.specs.declared.room.commit.Committed.{Committed}
use Rattle.room.specs.declared.room.commit.Committed.TheVariants.{Delivered, Stale}
use Rattle.room.specs.Books.{SeatBook, GoesOn}
use Rattle.room.specs.Jobs.{Job, IsOfShard}
use Rattle.room.specs.Commits.{delivery_of}
use Rattle.desk.specs.Desks.{IsSeatAfter, IsSeatAfterAll, IsSeatAfterFirst, IsDeliveryOf, IsWorked, IsWorkedAt, AllWorkedFrom, AllWorked}

-- ONE SEAT

pub worked_same : (shard shards turns : ℕ) (s t : SeatBook) → t ≡ s → IsWorked shard shards turns s t
worked_same shard shards turns s t is =
    record {
      same = ap (λ (u : SeatBook). u.number) is;
      calls = [];
      goes_on = ap (λ (u : SeatBook). u.notes) is ∙ sym (append-nil s.notes);
      most = omega arith;
      deliveries = All-nil (IsDeliveryOf shard shards);
    }

pub worked_longer : (shard shards m n : ℕ) (s t : SeatBook) → m ≤ n → IsWorked shard shards m s t →
    IsWorked shard shards n s t
worked_longer shard shards m n s t more p =
    let most = p.most in
    record { same = p.same; calls = p.calls; goes_on = p.goes_on; most = omega arith; deliveries = p.deliveries }

pub worked_further : (shard shards m n : ℕ) (r s t : SeatBook) → IsWorked shard shards m r s →
    IsWorked shard shards n s t → IsWorked shard shards (m + n) r t
worked_further shard shards m n r s t p q =
    let first = p.most in
    let second = q.most in
    record {
      same = q.same ∙ p.same;
      calls = p.calls ++ q.calls;
      goes_on = q.goes_on ∙ ap (λ (w : List Call). w ++ q.calls) p.goes_on ∙ append_assoc r.notes p.calls q.calls;
      most = omega (arith, length-append p.calls q.calls);
      deliveries = All-append (IsDeliveryOf shard shards) p.calls q.calls p.deliveries q.deliveries;
    }

-- the seat goes on from what it was
pub worked_goes_on : (shard shards turns : ℕ) (s t : SeatBook) → IsWorked shard shards turns s t → GoesOn s t
worked_goes_on shard shards turns s t p = record { same = p.same; goes_on = (p.calls, sym p.goes_on) }

-- OUTCOMES

-- one outcome
worked_one : (shard shards : ℕ) (seat : SeatBook) (x : Job) (told : Committed) (next : SeatBook) →
    IsOfShard shard shards x → IsSeatAfter seat x told next → IsWorked shard shards 1 seat next
worked_one shard shards seat x (Delivered reply) next of is =
    let call : Call = record { event = delivery_of x; reply = reply } in
    let delivery : IsDeliveryOf shard shards call = record {
      from = x.direction.from;
      to = x.direction.to;
      delivers = refl;
      of_shard = of;
      replied = is.1;
    } in
    record {
      same = ap (λ (u : SeatBook). u.number) is.0;
      calls = call ∷ [];
      goes_on = ap (λ (u : SeatBook). u.notes) is.0;
      most = omega arith;
      deliveries = All-cons (IsDeliveryOf shard shards) call [] delivery (All-nil (IsDeliveryOf shard shards));
    }
worked_one shard shards seat x (Stale newer) next of is = worked_same shard shards 1 seat next is.0

worked_all : (shard shards : ℕ) (seat : SeatBook) (xs : List Job) (new : SeatBook) → All (IsOfShard shard shards) xs →
    IsSeatAfterAll seat xs new → IsWorked shard shards (length xs) seat new
worked_all shard shards seat [] new of is = worked_same shard shards 0 seat new is
worked_all shard shards seat (x ∷ xs) new of is =
    worked_longer shard shards (1 + length xs) (length (x ∷ xs)) seat new (omega arith)
    (worked_further shard shards 1 (length xs) seat is.1 new
    (worked_one shard shards seat x is.0 is.1 (All-head (IsOfShard shard shards) x xs of) is.2)
    (worked_all shard shards is.1 xs new (All-tail (IsOfShard shard shards) x xs of) is.3))

all_front : {X : Type 0} (P : X → Type 0) (xs ys : List X) → All P (xs ++ ys) → All P xs
all_front P [] ys all = All-nil P
all_front P (x ∷ xs) ys all =
    All-cons P x xs (All-head P x (xs ++ ys) all) (all_front P xs ys (All-tail P x (xs ++ ys) all))

worked_first : (shard shards : ℕ) (seat : SeatBook) (xs : List Job) (new : SeatBook) → All (IsOfShard shard shards) xs →
    IsSeatAfterFirst seat xs new → IsWorked shard shards (length xs) seat new
worked_first shard shards seat xs new of is =
    let parts : length xs ≡ length (is.first ++ is.others) = ap length is.parts in
    worked_longer shard shards (length is.first) (length xs) seat new (omega (arith, length-append is.first is.others))
    (worked_all shard shards seat is.first new
    (all_front (IsOfShard shard shards) is.first is.others (subst (All (IsOfShard shard shards)) is.parts of))
    is.after)

-- outcomes of the shard, no more than so many
pub worked_told : {A E : Type 0} (told : Result A E) (shard shards most : ℕ) (seat : SeatBook) (xs : List Job)
    (new : SeatBook) → length xs ≤ most → All (IsOfShard shard shards) xs
    → OnOk told (IsSeatAfterAll seat xs new) → OnErr told (IsSeatAfterFirst seat xs new) →
    IsWorked shard shards most seat new
worked_told (Ok a) shard shards most seat xs new few of all first =
    worked_longer shard shards (length xs) most seat new few (worked_all shard shards seat xs new of all)
worked_told (Err e) shard shards most seat xs new few of all first =
    worked_longer shard shards (length xs) most seat new few (worked_first shard shards seat xs new of first)

-- a list with what was added, which is one thing alone
pub all_added : {X : Type 0} (P : X → Type 0) (x : X) (xs more ys : List X) → ys ≡ xs ++ more → All (λ y. y ≡ x) more →
    All P xs → P x → All P ys
all_added P x xs more ys e same all one =
    subst (All P) (sym e) (All-append P xs more all
    (All-weaker (λ y. y ≡ x) P (λ y is. subst P (sym is) one) more same))

-- TURNS

-- turns at once more
pub turned : (shard shards place turns count more : ℕ) (r s t : SeatBook) → shard ≡ place % shards →
    turns + count ≤ more
    → IsWorkedAt place shards turns r s → IsWorked shard shards count s t → IsWorkedAt place shards more r t
turned shard shards place turns count more r s t is most p q =
    worked_longer (place % shards) shards (turns + count) more r t most
    (worked_further (place % shards) shards turns count r s t p (subst (λ (n : ℕ). IsWorked n shards count s t) is q))

-- what is promised of a seat, in other words
pub promised : (a b c : ℕ) (s : SeatBook) (a' b' c' : ℕ) (s' r : SeatBook) → a' ≡ a → b' ≡ b → c' ≡ c → s' ≡ s →
    IsWorked a b c s r → IsWorked a' b' c' s' r
promised a b c s a' b' c' s' r as_a as_b as_c as_s p =
    subst (λ (n : ℕ). IsWorked n b' c' s' r) (sym as_a)
    (subst (λ (n : ℕ). IsWorked a n c' s' r) (sym as_b)
    (subst (λ (n : ℕ). IsWorked a b n s' r) (sym as_c) (subst (λ (u : SeatBook). IsWorked a b c u r) (sym as_s) p)))

-- ALL SEATS

worked_push : (shards turns place : ℕ) (xs ys : List SeatBook) (x y : SeatBook) →
    AllWorkedFrom place shards turns xs ys → IsWorkedAt (place + length xs) shards turns x y
    → AllWorkedFrom place shards turns (xs ++ x ∷ []) (ys ++ y ∷ [])
worked_push shards turns place [] [] x y h p =
    let none : List SeatBook = [] in
    let here : place + length none ≡ place = omega arith in
    (subst (λ (n : ℕ). IsWorkedAt n shards turns x y) here p, tt)
worked_push shards turns place (a ∷ xs) (b ∷ ys) x y h p =
    let there : place + length (a ∷ xs) ≡ place + 1 + length xs = omega arith in
    (h.0, worked_push shards turns (place + 1) xs ys x y h.1 (subst (λ (n : ℕ). IsWorkedAt n shards turns x y) there p))
worked_push shards turns place [] (b ∷ ys) x y h p = absurd h
worked_push shards turns place (a ∷ xs) [] x y h p = absurd h

-- one seat more, at the place past the others
pub all_worked_push : (shards turns place : ℕ) (xs ys : List SeatBook) (x y : SeatBook) → place ≡ length xs →
    AllWorked shards turns xs ys → IsWorkedAt place shards turns x y
    → AllWorked shards turns (xs ++ x ∷ []) (ys ++ y ∷ [])
all_worked_push shards turns place xs ys x y is h p =
    let there : place ≡ 0 + length xs = omega arith in
    worked_push shards turns 0 xs ys x y h (subst (λ (n : ℕ). IsWorkedAt n shards turns x y) there p)

pub ruleset rows = (all_worked_push)
