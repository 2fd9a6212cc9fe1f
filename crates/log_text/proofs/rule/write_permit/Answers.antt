use Rattle.std.proofs.Common.{codes}
use Rattle.command_text.specs.Words.{settings_words}
use Rattle.reply_text.specs.Pieces.{writes_cut, writes_next}
use Rattle.log_text.specs.Rules.{spaced}
use Rattle.log_text.proofs.rule.write_permit.Goals as goal

pub returns-in_err-write : goal.returns-in_err-write
returns-in_err-write g c =
    writes_cut c.args.output.now c.write.new.self (codes " permit") (spaced (settings_words c.args.settings))
    c.from_residual.result c.from_residual.ensures.0 c.in_err-write.ensures

pub returns : goal.returns
returns g c =
    writes_next c.args.output.now c.write.new.self c.write_settings.new.output (codes " permit")
    (spaced (settings_words c.args.settings)) c.write_settings.result c.in_ok-write.ensures c.write_settings.ensures
