use Rattle.std.proofs.Common.{◌≡◌, ◌≤◌, length, drop}
use Rattle.std.specs.Prelude.{◌↔◌}
use Rattle.reference_machine.specs.Histories.{calls_of}
use Rattle.call_history.proofs.agreement.agrees.Given as goal

-- the notes are the seat's calls where what is left of them is what is left of the history
abbrev pub invariant-loop-index : goal.invariant-loop-index
invariant-loop-index l =
    ((calls_of l.number l.entries ≡ l.notes) ↔ (calls_of l.number (drop l.index l.entries) ≡ drop l.next l.notes))
    × (l.next ≤ length l.notes)
