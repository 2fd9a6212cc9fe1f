use Rattle.std.proofs.Common.{◌≡◌, ◌≤◌, length, arith, ap, sym, subst, ◌∙◌}
use Rattle.route_select.specs.declared.candidate.Source.{Source}
use Rattle.route_select.specs.Selection.{Standings, considered_in, without_source}
use Rattle.route_select.specs.Entries.{candidate_at}
use Rattle.route_select.specs.Groups.{AreRanked, IsBest, AreGrouped, known_of, most_entries, without}
use Rattle.route_select.proofs.EntryLemmas.{Entries, compared}
use Rattle.route_select.proofs.GroupMap.{length_without, remove_without, distinct_without, drop_map, absent_map}
use Rattle.route_select.proofs.GroupOrder.{ranked_without, each_without}
use Rattle.route_select.proofs.group_cell.GroupCellSelector.drop_source.Goals as goal

pub best_place-self-inside-requires-clause-ranked : goal.best_place-self-inside-requires-clause-ranked
best_place-self-inside-requires-clause-ranked c =
    let es = c.self.inside.entries.items in
    let is = rw c.deref.ensures.value at c.in-Some.ensures.found in
    let left = c.remove.ensures.items
    ∙ remove_without es c.args.source c.in-Some.at c.self.invariant.distinct is.in_range is.tied in
    subst (AreRanked c.self.inside.med_always) (sym (c.deref-in-Some.ensures.value ∙ left))
    (ranked_without c.self.inside.med_always c.args.source es c.self.invariant.ranked)

-- what is left is no more
few_left : (s : Source) (es : Entries) → length es ≤ most_entries → length (without s es) ≤ most_entries
few_left s es few = let less = length_without s es in omega arith

pub best_place-self-inside-requires-clause-few : goal.best_place-self-inside-requires-clause-few
best_place-self-inside-requires-clause-few c =
    let es = c.self.inside.entries.items in
    let is = rw c.deref.ensures.value at c.in-Some.ensures.found in
    let left = c.remove.ensures.items
    ∙ remove_without es c.args.source c.in-Some.at c.self.invariant.distinct is.in_range is.tied in
    subst (λ xs. length xs ≤ most_entries) (sym (c.deref-in-Some.ensures.value ∙ left))
    (few_left c.args.source es c.self.invariant.few)

pub invariant_of-self : goal.invariant_of-self
invariant_of-self c =
    let always = c.self.inside.med_always in
    let es = c.self.inside.entries.items in
    let b = c.best_place-self-inside.result in
    let is = rw c.deref.ensures.value at c.in-Some.ensures.found in
    let left = c.remove.ensures.items
    ∙ remove_without es c.args.source c.in-Some.at c.self.invariant.distinct is.in_range is.tied in
    subst (λ xs. AreGrouped always xs b) (sym left) (record {
      ranked = ranked_without always c.args.source es c.self.invariant.ranked;
      distinct = distinct_without c.args.source es c.self.invariant.distinct;
      own = each_without c.args.source es c.self.invariant.own;
      best = subst (λ xs. IsBest always (considered_in xs) (candidate_at xs b)) (c.deref-in-Some.ensures.value
          ∙ left) c.best_place-self-inside.ensures;
      few = few_left c.args.source es c.self.invariant.few;
    })

pub returns-in-Some : goal.returns-in-Some
returns-in-Some c =
    let es = c.self.inside.entries.items in
    let is = rw c.deref.ensures.value at c.in-Some.ensures.found in
    let left = c.remove.ensures.items
    ∙ remove_without es c.args.source c.in-Some.at c.self.invariant.distinct is.in_range is.tied in
    ap (compared c.self.inside.med_always) (ap known_of left ∙ drop_map c.args.source es)
    ∙ ap (without_source c.args.source) c.self.view_is

pub returns-in_default : goal.returns-in_default
returns-in_default c =
    let absent = rw c.deref.ensures.value at c.in_default.ensures.absent in
    subst (λ (m : Standings). m ≡ without_source c.args.source m) c.self.view_is
    (ap (compared c.self.inside.med_always) (absent_map c.args.source c.self.inside.entries.items absent))
