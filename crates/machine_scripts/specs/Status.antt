-- How the program ends: its exit statuses.
use Rattle.std.specs.Prelude.{◌≡◌, ◌⊎◌, ℕ, Result}
use Rattle.std.specs.Process.{exit_status}
use Rattle.std.specs.declared.process.ExitCode.{ExitCode}
use Rattle.line_serving.specs.declared.fault.ServeFault.{ServeFault}
use Rattle.sim_text.specs.ScriptRun.{status_of}
use Rattle.reply_text.specs.Ending.{no_memory}

-- how a program ends that is asked to serve
abbrev pub IsEnd : ExitCode → Type 0
IsEnd code = (exit_status code ≡ no_memory) ⊎ ((served : Result ℕ ServeFault) × (exit_status code ≡ status_of served))
