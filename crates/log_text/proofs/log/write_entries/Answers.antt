use Rattle.reply_text.specs.Pieces.{each_next, each_cut, each_end}
use Rattle.log_text.specs.Logs.{entry_text}
use Rattle.log_text.proofs.log.write_entries.Goals as goal

pub returns-in_err-write_entry : goal.returns-in_err-write_entry
returns-in_err-write_entry g c =
    each_cut entry_text c.args.output.now c.loop-entry.output c.write_entry.new.output _ c.args.entries.now
    c.loop-entry.entry-index c.entry-item.result c.from_residual.result c.loop-entry-test.true c.entry-item.is
    c.loop-entry.invariant c.from_residual.ensures.0 c.in_err-write_entry.ensures

pub loop-entry-preserved : goal.loop-entry-preserved
loop-entry-preserved g c =
    each_next entry_text c.args.output.now c.loop-entry.output c.write_entry.new.output _ c.args.entries.now
    c.loop-entry.entry-index c.entry-item.result c.loop-entry-test.true c.entry-item.is c.loop-entry.invariant
    c.in_ok-write_entry.ensures

pub returns : goal.returns
returns g c = each_end entry_text c.args.output.now c.loop-entry.output _ c.args.entries.now c.loop-entry.entry-index
    c.loop-entry-test.false c.loop-entry.invariant
