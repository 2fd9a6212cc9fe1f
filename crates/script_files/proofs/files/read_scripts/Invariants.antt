use Rattle.std.proofs.Common.{◌≡◌, drop, length, take}
use Rattle.script_files.specs.Sources.{AreRead}
use Rattle.script_files.proofs.files.read_scripts.Given as goal

-- the files so far were read, and the others are as they were
abbrev pub invariant-loop-place : goal.invariant-loop-place
invariant-loop-place g l =
    (length l.scripts.items ≡ l.place) × (length l.files ≡ length l.fn.files)
    × (drop l.place l.files ≡ drop l.place l.fn.files) × AreRead (take l.place l.fn.files) l.scripts.items
