use Rattle.prefix_table.proofs.Keeping.{sorted_kept, seen_new, seen_before, seen_none}
use Rattle.prefix_table.proofs.sorted.SortedTablePrefixTable.insert.Goals as goal

pub invariant_of-self : goal.invariant_of-self
invariant_of-self g c = sorted_kept c.put_in.result c.args.prefix c.self.inside.entries.items c.self.invariant
    c.args.value c.put_in.new.entries.items c.put_in.ensures.inserted c.put_in.ensures.same

pub returns-clause-inserted : goal.returns-clause-inserted
returns-clause-inserted g c =
    seen_new c.put_in.result c.args.prefix c.self.inside.entries.items c.self.invariant c.args.value
    c.put_in.new.entries.items c.args.self.now c.self.view_is c.put_in.ensures.inserted

pub returns-clause-before : goal.returns-clause-before
returns-clause-before g c =
    seen_before c.put_in.result c.args.prefix c.self.inside.entries.items c.args.self.now c.self.invariant
    c.self.view_is c.put_in.ensures.before

pub returns-clause-absent : goal.returns-clause-absent
returns-clause-absent g c =
    seen_none c.put_in.result c.args.prefix c.self.inside.entries.items c.self.invariant c.args.self.now c.self.view_is
    c.put_in.ensures.absent
