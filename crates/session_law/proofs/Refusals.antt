-- Want of memory comes last.
use Rattle.std.proofs.Common.{⊎_elim, sym, ap, ◌∙◌}
use Rattle.std.proofs.lemmas.Bool.{true≢false}
use Rattle.reference_machine.specs.Machine.{Outcome, is_refusal}
use Rattle.session_law.specs.RefusalLaw.{RefusalLaw, QuietIsTold}

pub refusal_law : RefusalLaw
refusal_law s e r reply s' is taken = ⊎_elim
    (λ own. (own.0 ∙ ap (λ (o : Outcome). o.reply) is, own.1 ∙ ap (λ (o : Outcome). o.next) is))
    (λ wanted. absurd (true≢false (sym (ap (λ (o : Outcome). is_refusal o.reply) is) ∙ wanted.2)))
    taken

pub quiet_is_told : QuietIsTold
quiet_is_told s reply s' taken = ⊎_elim (λ own. own.0) (λ wanted. absurd (true≢false wanted.3)) taken
