-- A virtual peer sends nothing by itself, and tells nothing of what it would decide.
use Rattle.std.proofs.Common.{◌≡◌, Bool, true, false, not, ◌&&◌, [], Option, Some, if◌then◌else◌, refl, sym, ap, ◌∙◌}
use Rattle.std.proofs.lemmas.Bool.{true≢false}
use Rattle.std.proofs.lemmas.Option.{none-some, same_Some}
use Rattle.net_prefix.specs.declared.addr.Addr.{Addr}
use Rattle.net_conf.specs.Configuration.{Configuration, has_node, is_virtual}
use Rattle.net_conf.specs.Costs.{is_up}
use Rattle.net_conf.specs.declared.refusal.Refusal.{Refusal}
use Rattle.net_conf.specs.declared.refusal.Refusal.TheVariants.{NoRouter, BadEnd}
use Rattle.sim_event.specs.declared.event.Ask.{Ask}
use Rattle.sim_event.specs.declared.event.Ask.TheVariants.{Routes, Best, Why, In, Out, Queue, Quiet, Cost, Trace}
use Rattle.reference_machine.specs.Network.{Network}
use Rattle.reference_machine.specs.Advertising.{changes, sent, PeersSendNothing}
use Rattle.reference_machine.specs.Machine.{Outcome, unless_refused, asks_nobody, asks_peer, ask_refusal, question_step, is_refusal, decider_asked, PeersTellNothing}

never : (there up : Bool) → (there && not true && up) ≡ false
never true up = refl
never false up = refl

pub nothing_sent : PeersSendNothing
unfolding sent
nothing_sent s s' r t virtual =
    ap (λ v. if has_node s'.conf r && not v && is_up s'.conf r t then changes s s' r t else []) virtual
    ∙ ap (λ b. if b then changes s s' r t else []) (never (has_node s'.conf r) (is_up s'.conf r t))

asked_peer : (c : Configuration) (q : Ask) (r : Addr) → decider_asked q ≡ Some r → is_virtual c r ≡ true →
    asks_peer c q ≡ true
asked_peer c (Routes x) r asked virtual = ap (is_virtual c) (same_Some x r asked) ∙ virtual
asked_peer c (Best x p) r asked virtual = ap (is_virtual c) (same_Some x r asked) ∙ virtual
asked_peer c (Why x p) r asked virtual = ap (is_virtual c) (same_Some x r asked) ∙ virtual
asked_peer c (Out x t) r asked virtual = ap (is_virtual c) (same_Some x r asked) ∙ virtual
asked_peer c (Cost x y) r asked virtual = ap (is_virtual c) (same_Some x r asked) ∙ virtual
asked_peer c (Trace x d) r asked virtual = ap (is_virtual c) (same_Some x r asked) ∙ virtual
asked_peer c (In x u) r asked virtual = absurd (none-some r asked)
asked_peer c (Queue a b) r asked virtual = absurd (none-some r asked)
asked_peer c Quiet r asked virtual = absurd (none-some r asked)

refused_by : (nobody peer : Bool) (later : Option Refusal) (s : Network) (o : Outcome) → peer ≡ true →
    is_refusal (unless_refused (if nobody then Some NoRouter else if peer then Some BadEnd else later) s o).reply ≡ true
refused_by true peer later s o is = refl
refused_by false true later s o is = refl
refused_by false false later s o is = absurd (true≢false (sym is))

pub nothing_told : PeersTellNothing
unfolding question_step ask_refusal
nothing_told s q r asked virtual =
    refused_by (asks_nobody s.conf q) (asks_peer s.conf q) _ s _ (asked_peer s.conf q r asked virtual)
