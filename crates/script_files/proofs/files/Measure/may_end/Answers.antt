use Rattle.std.proofs.Common.{leb}
use Rattle.std.proofs.lemmas.Bool.{leb-true, leb-false}
use Rattle.script_files.proofs.Limits.{fit_end, unfit_end}
use Rattle.script_files.proofs.files.Measure.may_end.Goals as goal

pub returns-clause-fit : goal.returns-clause-fit
returns-clause-fit c = λ e read so. fit_end read c.args.self.now so (leb-true c.args.self.now.length 65536 e)

pub returns-clause-unfit : goal.returns-clause-unfit
returns-clause-unfit c = λ e read so. unfit_end read c.args.self.now so (leb-false c.args.self.now.length 65536 e)
