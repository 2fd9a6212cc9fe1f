-- What holds of a question that is not refused.
use Rattle.std.proofs.Common.{◌≡◌, ◌↔◌, Bool, true, false, not, ◌&&◌, Option, Some, None, IsTrue, if◌then◌else◌, refl, sym}
use Rattle.std.proofs.lemmas.Option.{none-some}
use Rattle.net_conf.specs.declared.refusal.Refusal.{Refusal}
use Rattle.net_conf.specs.declared.refusal.Refusal.TheVariants.{NoRouter, BadEnd}
use Rattle.net_conf.specs.Configuration.{Configuration}
use Rattle.sim_event.specs.declared.event.Ask.{Ask}
use Rattle.sim_event.specs.declared.event.Ask.TheVariants.{Routes, Best, Why, In, Out, Queue, Quiet, Cost, Trace}
use Rattle.sim_event.specs.declared.event.Event.TheVariants.{Ask as AnAsk}
use Rattle.reference_machine.specs.Machine.{ask_refusal, asks_nobody, asks_peer, asks_quiet}

passes : (test : Bool) (refusal : Refusal) (later : Option Refusal) → (if test then Some refusal else later) ≡ None →
    test ≡ false
passes true refusal later is = absurd (none-some refusal (sym is))
passes false refusal later is = refl

later_passes : (test : Bool) (refusal : Refusal) (later : Option Refusal) →
    (if test then Some refusal else later) ≡ None → later ≡ None
later_passes true refusal later is = absurd (none-some refusal (sym is))
later_passes false refusal later is = is

module _ (c : Configuration) (q : Ask) (none : ask_refusal c q ≡ None) where
  -- whom it names is there
  pub asks_somebody : asks_nobody c q ≡ false
  unfolding ask_refusal
  asks_somebody = passes (asks_nobody c q) NoRouter _ none

  -- and what only a router knows is asked of a router
  pub asks_router : asks_peer c q ≡ false
  unfolding ask_refusal
  asks_router = passes (asks_peer c q) BadEnd _ (later_passes (asks_nobody c q) NoRouter _ none)

pub first_there : (one other : Bool) → not (one && other) ≡ false → one ≡ true
first_there true other h = refl
first_there false other h = sym h

-- whether all queues are empty is never refused
pub quiet_is_answered : (c : Configuration) (q : Ask) (r : Refusal) → ask_refusal c q ≡ Some r →
    asks_quiet (AnAsk q) ≡ false
unfolding ask_refusal
quiet_is_answered c (Routes a) r is = refl
quiet_is_answered c (Best a p) r is = refl
quiet_is_answered c (Why a p) r is = refl
quiet_is_answered c (In a b) r is = refl
quiet_is_answered c (Out a b) r is = refl
quiet_is_answered c (Queue a b) r is = refl
quiet_is_answered c Quiet r is = absurd (none-some r is)
quiet_is_answered c (Cost a b) r is = refl
quiet_is_answered c (Trace a d) r is = refl

-- two tests of one thing are the same
pub same_test : {A : Type 0} (a b : Bool) → IsTrue a ↔ A → (b ≡ true) ↔ A → a ≡ b
same_test true b one two = sym (two.1 (one.0 refl))
same_test false true one two = one.1 (two.0 refl)
same_test false false one two = refl
