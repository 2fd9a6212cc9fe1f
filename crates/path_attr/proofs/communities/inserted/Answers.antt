-- The search ends before the first number that is not below this one.
use Rattle.std.proofs.Common.{◌≡◌, ◌++◌, rules, nat_lt, sym, ap, subst, ◌∙◌}
use Rattle.std.specs.List.{insert}
use Rattle.std.proofs.lemmas.List.Sorted.{IsPartitionPoint-from_clause}
use Rattle.path_attr.specs.Path.{IsAscending}
use Rattle.path_attr.specs.Communities.{with_community}
use Rattle.path_attr.proofs.Inserting.{parted, at_place, ascending_with}
use Rattle.path_attr.proofs.communities.inserted.Goals as goal

at_its_place : (c : goal.In_ok-insert) → c.insert.new.self.items ≡ with_community c.args.number c.args.numbers.now
at_its_place c =
    let ns = c.args.numbers.now in
    let n = c.args.number in
    let at = c.partition_point-at.result in
    let point = IsPartitionPoint-from_clause (λ m. nat_lt m n) ns at c.partition_point-at.ensures.partitioned
    (parted n ns c.requires.ascending) (λ a r q k. search rules) in
    let copied : c.extend_from_slice.new.self.items ≡ ns = c.in_ok-extend_from_slice.ensures.items
    ∙ ap (λ xs. xs ++ ns) c.in_ok-more.ensures.items in
    c.in_ok-insert.ensures.items ∙ ap (λ xs. insert xs at n) copied
    ∙ at_place n ns at c.requires.ascending c.requires.absent c.partition_point-at.ensures.bound point

pub returns-clause-value : goal.returns-clause-value
returns-clause-value c = at_its_place c

pub returns-clause-ascending : goal.returns-clause-ascending
returns-clause-ascending c =
    subst IsAscending (sym (at_its_place c)) (ascending_with c.args.number c.args.numbers.now c.requires.ascending)
