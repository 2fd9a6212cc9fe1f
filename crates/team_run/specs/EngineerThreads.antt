-- No public contract cites this file. Engineers between the start of their threads and the end.
use Rattle.std.specs.Prelude.{◌≡◌, List}
use Rattle.std.specs.declared.thread.PromisedHandle.{PromisedHandle}
use Rattle.std.specs.List.{AllZip}
use Rattle.team_run.specs.declared.crew.HasCalledScript.{HasCalledScript}
use Rattle.team_run.specs.Playing.{Engineering}

-- the thread promises that the engineer's script is called
abbrev pub IsToPlay : {T L : Type 0} → Engineering → PromisedHandle T (HasCalledScript L) → Type 0
IsToPlay engineer thread = thread.promise.0.value ≡ engineer

-- so does each thread, of the engineer at its place
abbrev pub AreToPlay : {T L : Type 0} → List Engineering → List (PromisedHandle T (HasCalledScript L)) → Type 0
AreToPlay engineers threads = AllZip IsToPlay engineers threads
