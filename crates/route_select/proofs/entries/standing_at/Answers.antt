use Rattle.route_select.proofs.EntryLemmas.{read_from}
use Rattle.route_select.proofs.entries.standing_at.Goals as goal

pub returns : goal.returns
returns c = read_from c.args.entries.now c.args.at c.index-entries-at.result c.requires
