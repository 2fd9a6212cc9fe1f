use Rattle.log_text.specs.LogParts.{log_cut_first, log_cut_calls, log_whole}
use Rattle.log_text.proofs.in_threads.write_log_in_threads.Goals as goal

pub returns-in_err-write_header : goal.returns-in_err-write_header
returns-in_err-write_header g c =
    log_cut_first c.args.entries.now c.args.output.now c.write_header.new.output c.from_residual.result
    c.from_residual.ensures.0 c.in_err-write_header.ensures

pub returns-in_err-write_turns : goal.returns-in_err-write_turns
returns-in_err-write_turns g c =
    log_cut_calls c.args.entries.now c.args.output.now c.write_header.new.output c.write_turns.new.output
    c.from_residual-in_err-write_turns.result
    c.in_ok-write_header.ensures c.from_residual-in_err-write_turns.ensures.0 c.in_err-write_turns.ensures

pub returns : goal.returns
returns g c =
    log_whole c.args.entries.now c.args.output.now c.write_header.new.output c.write_turns.new.output
    c.write_end.new.output c.write_end.result
    c.in_ok-write_header.ensures c.in_ok-write_turns.ensures c.write_end.ensures
