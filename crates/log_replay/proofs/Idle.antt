-- What a machine answers that has done nothing.
use Rattle.std.proofs.Common.{◌≡◌, ℕ, true, inl, inr, refl, sym, subst}
use Rattle.net_prefix.specs.declared.addr.Addr.{Addr}
use Rattle.net_conf.specs.declared.edit.Edit.{Edit}
use Rattle.net_conf.specs.declared.edit.Edit.TheVariants.{Router}
use Rattle.net_conf.specs.declared.refusal.Refusal.TheVariants.{Memory}
use Rattle.net_conf.specs.Edits.{refusal_of}
use Rattle.sim_event.specs.declared.event.Event.TheVariants.{Edit as AnEdit, Ask as AnAsk}
use Rattle.sim_event.specs.declared.event.Ask.{Ask}
use Rattle.sim_event.specs.declared.event.Ask.TheVariants.{Quiet}
use Rattle.sim_event.specs.declared.reply.Reply.TheVariants.{Report as AReport, Refused}
use Rattle.sim_event.specs.declared.reply.Report.TheVariants.{Quiet as IsQuiet}
use Rattle.reference_machine.specs.Reports.{is_quiet}
use Rattle.reference_machine.specs.Machine.{nothing, IsStep, question_step, ask_refusal, edit_step}

pub asked_quiet : (q : Ask) → q ≡ Quiet → IsStep nothing (AnAsk q) (AReport (IsQuiet true)) nothing
unfolding question_step ask_refusal is_quiet
asked_quiet q is = subst (λ x. IsStep nothing (AnAsk x) (AReport (IsQuiet true)) nothing) (sym is) (inl (refl, refl))

pub no_memory : (t : Edit) (a : Addr) (n : ℕ) → t ≡ Router a n → IsStep nothing (AnEdit t) (Refused Memory) nothing
unfolding edit_step refusal_of
no_memory t a n is = subst (λ x. IsStep nothing (AnEdit x) (Refused Memory) nothing) (sym is)
    (inr (refl, refl, refl, refl))
