use Rattle.std.proofs.Common.{false, refl}
use Rattle.script_files.proofs.Limits.{measured_none}
use Rattle.script_files.proofs.files.Measure.new.Goals as goal

pub returns : goal.returns
returns c = measured_none (record { lines = 0; length = 0; is_returned = false }) refl refl refl
