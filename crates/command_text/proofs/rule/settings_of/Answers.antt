use Rattle.std.proofs.Common.{◌≡◌, []}
use Rattle.sim_event.specs.Events.{AreSettings}
use Rattle.command_text.specs.Lines.{tokens}
use Rattle.command_text.specs.Words.{settings_words}
use Rattle.command_text.proofs.Readings.{unspelled}
use Rattle.command_text.proofs.Settings.{after_add, left_of_med, left_of_prepend, prepend_read}
use Rattle.command_text.proofs.rule.settings_of.Goals as goal

pub returns-in_err-add : goal.returns-in_err-add
returns-in_err-add c =
    unspelled AreSettings settings_words _ _ c.from_residual-in_err-add.ensures (λ s h e.
    let prepend = left_of_med _ _ _ s c.in_ok-pref.ensures.after c.in_ok-med.ensures.after e in
    let add = left_of_prepend _ _ s c.in_ok-prepend.ensures.after prepend in
    c.in_err-add.ensures.none s.add [] h.3 after_add add)

pub returns-then-not-is_blank : goal.returns-then-not-is_blank
returns-then-not-is_blank c s h e =
    let prepend = left_of_med _ _ _ s c.in_ok-pref.ensures.after c.in_ok-med.ensures.after e in
    let add = left_of_prepend _ _ s c.in_ok-prepend.ensures.after prepend in
    let blank : tokens c.in_ok-add.rest.now ≡ [] = c.in_ok-add.ensures.after s.add [] after_add add in
    cc (c.is_blank.ensures.1 blank, c.if-not-is_blank.true)

pub returns-in_err-prepend-2 : goal.returns-in_err-prepend-2
returns-in_err-prepend-2 c =
    unspelled AreSettings settings_words _ _ c.from_residual-in_err-prepend-2.ensures (λ s h e.
    let prepend = left_of_med _ _ _ s c.in_ok-pref.ensures.after c.in_ok-med.ensures.after e in
    let add = left_of_prepend _ _ s c.in_ok-prepend.ensures.after prepend in
    c.in_err-prepend-2.ensures s.prepend h.2
    (prepend_read _ _ _ s c.in_ok-prepend.ensures.range h.2 c.in_ok-prepend.ensures.found prepend add))
