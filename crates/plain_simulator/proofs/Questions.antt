-- What holds of a question that is not refused.
use Rattle.std.proofs.Common.{◌≡◌, Bool, true, false, not, ◌&&◌, Option, Some, None, if◌then◌else◌, refl, sym}
use Rattle.std.proofs.lemmas.Option.{none-some}
use Rattle.net_prefix.specs.declared.addr.Addr.{Addr}
use Rattle.net_conf.specs.declared.refusal.Refusal.{Refusal}
use Rattle.net_conf.specs.declared.refusal.Refusal.TheVariants.{NoRouter}
use Rattle.net_conf.specs.Configuration.{Configuration, has_node}
use Rattle.sim_event.specs.declared.event.Ask.TheVariants.{Cost}
use Rattle.reference_machine.specs.Machine.{ask_refusal}

first_there : (there other : Bool) (later : Option Refusal) → (if not (there && other) then Some NoRouter else later)
    ≡ None → there ≡ true
first_there true other later is = refl
first_there false other later is = absurd (none-some NoRouter (sym is))

-- where a cost is asked for, a router or peer stands at its start
pub asks_somebody : (c : Configuration) (r x : Addr) → ask_refusal c (Cost r x) ≡ None → has_node c r ≡ true
unfolding ask_refusal
asks_somebody c r x none = first_there (has_node c r) (has_node c x) _ none
