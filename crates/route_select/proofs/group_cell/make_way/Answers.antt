use Rattle.std.proofs.Common.{◌≡◌, ℕ, ◌<◌, ◌≤◌, length, Result, Ok, Err, OnOk, ap, sym, ◌∙◌, arith}
use Rattle.std.proofs.lemmas.List.Edits.{length-remove}
use Rattle.std.specs.List.{remove}
use Rattle.route_select.specs.Groups.{most_entries}
use Rattle.route_select.proofs.EntryLemmas.{Entries}
use Rattle.route_select.proofs.GroupMap.{remove_without, without_absent}
use Rattle.route_select.proofs.group_cell.make_way.Goals as goal

anyway : {A E : Type 0} (r : Result A E) (P : Type 0) → P → OnOk r P
anyway (Ok a) P p = p
anyway (Err e) P p = tt

pub returns-in-Some-clause-ok : goal.returns-in-Some-clause-ok
returns-in-Some-clause-ok c =
    let is = rw c.deref.ensures.value at c.in-Some.ensures.found in
    c.remove.ensures.items ∙ remove_without _ c.args.source c.in-Some.at c.requires.distinct is.in_range is.tied

pub returns-in_ok-make_room-in-None-clause-ok : goal.returns-in_ok-make_room-in-None-clause-ok
returns-in_ok-make_room-in-None-clause-ok c =
    let absent = rw c.deref.ensures.value at c.in-None.ensures.absent in
    c.make_room.ensures.same ∙ sym (without_absent c.args.source _ absent)

-- one fewer than there were
one_fewer : (es left : Entries) (i : ℕ) → left ≡ remove es i → i < length es → length es ≤ most_entries →
    length left < most_entries
one_fewer es left i is lt few =
    let less = length-remove es i lt in
    let same : length left ≡ length (remove es i) = ap length is in
    omega arith

pub returns-in-Some-clause-few : goal.returns-in-Some-clause-few
returns-in-Some-clause-few c =
    let is = rw c.deref.ensures.value at c.in-Some.ensures.found in
    one_fewer _ _ _ c.remove.ensures.items is.in_range c.requires.few
