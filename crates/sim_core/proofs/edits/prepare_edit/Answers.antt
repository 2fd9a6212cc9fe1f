use Rattle.std.proofs.Common.{sym, ap, ◌∙◌}
use Rattle.net_conf.specs.Edits.{refusal_of}
use Rattle.sim_core.proofs.Refusals.{edit_denied, edit_wants}
use Rattle.sim_core.proofs.edits.prepare_edit.Goals as goal

pub returns-in-Err-clause-prepares : goal.returns-in-Err-clause-prepares
returns-in-Err-clause-prepares g c =
    edit_denied c.args.state.now c.args.edit.now c.in-Err.refusal
    (sym (ap (λ k. refusal_of k c.args.edit.now) c.conf.ensures) ∙ c.in-Err.ensures)

pub returns-in-Err-plan_edit-clause-prepares : goal.returns-in-Err-plan_edit-clause-prepares
returns-in-Err-plan_edit-clause-prepares g c =
    edit_wants c.args.state.now c.plan_edit.new.state c.plan_edit.ensures.network c.args.edit.now
    (sym (ap (λ k. refusal_of k c.args.edit.now) c.conf.ensures) ∙ c.in_default.ensures)
