use Rattle.std.proofs.Common.{◌≡◌, length, map, take}
use Rattle.script_files.specs.Sources.{FileBook}
use Rattle.bgpsim.proofs.running.opened.Given as goal

-- a file for each name so far, which it has
abbrev pub invariant-loop-name : goal.invariant-loop-name
invariant-loop-name g l =
    (length l.files.items ≡ l.name-index)
    × (map (λ (file : FileBook). file.name) l.files.items ≡ map (λ name. name.now) (take l.name-index l.names))
