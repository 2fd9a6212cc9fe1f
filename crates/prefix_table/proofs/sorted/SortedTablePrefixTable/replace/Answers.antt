use Rattle.prefix_table.proofs.Keeping.{sorted_kept, seen_new, seen_none, seen_old}
use Rattle.prefix_table.proofs.sorted.SortedTablePrefixTable.replace.Goals as goal

pub invariant_of-self : goal.invariant_of-self
invariant_of-self g c = sorted_kept c.replace_in.result c.args.prefix c.self.inside.entries.items c.self.invariant
    c.args.value c.replace_in.new.entries.items c.replace_in.ensures.replaced c.replace_in.ensures.same

pub returns-clause-replaced : goal.returns-clause-replaced
returns-clause-replaced g c = seen_new c.replace_in.result c.args.prefix c.self.inside.entries.items c.self.invariant
    c.args.value c.replace_in.new.entries.items c.args.self.now c.self.view_is c.replace_in.ensures.replaced

pub returns-clause-before : goal.returns-clause-before
returns-clause-before g c =
    seen_old c.replace_in.result c.args.prefix c.self.inside.entries.items c.args.self.now c.self.invariant
    c.self.view_is c.replace_in.ensures.before

pub returns-clause-absent : goal.returns-clause-absent
returns-clause-absent g c = seen_none c.replace_in.result c.args.prefix c.self.inside.entries.items c.self.invariant
    c.args.self.now c.self.view_is c.replace_in.ensures.absent
