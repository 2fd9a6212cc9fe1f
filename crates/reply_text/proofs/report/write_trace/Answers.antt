use Rattle.std.proofs.Common.{◌+◌, ◌++◌, length, sym, ap, append_assoc}
use Rattle.std.specs.List.{flat_map}
use Rattle.reply_text.specs.Replies.{end_line, hop_line, trace_end_line}
use Rattle.reply_text.specs.Pieces.{writes_same, writes_cut, writes_next}
use Rattle.reply_text.proofs.report.write_trace.Goals as goal

pub returns-in_err-write_each : goal.returns-in_err-write_each
returns-in_err-write_each g c =
    writes_same c.args.output.now c.write_each.new.output _ _ c.from_residual.result
    (append_assoc (flat_map hop_line c.args.hops.now) (trace_end_line c.args.end)
    (end_line (length c.args.hops.now + 1)))
    (writes_cut c.args.output.now c.write_each.new.output (flat_map hop_line c.args.hops.now) (trace_end_line c.args.end
    ++ end_line (length c.args.hops.now + 1)) c.from_residual.result c.from_residual.ensures.0
    c.in_err-write_each.ensures)

pub returns-in_err-write : goal.returns-in_err-write
returns-in_err-write g c =
    writes_same c.args.output.now c.write.new.output _ _ c.from_residual-in_err-write.result
    (append_assoc (flat_map hop_line c.args.hops.now) (trace_end_line c.args.end)
    (end_line (length c.args.hops.now + 1)))
    (writes_next c.args.output.now c.write_each.new.output c.write.new.output (flat_map hop_line c.args.hops.now)
    (trace_end_line c.args.end ++ end_line (length c.args.hops.now + 1)) c.from_residual-in_err-write.result
    c.in_ok-write_each.ensures
    (writes_cut c.write_each.new.output c.write.new.output (trace_end_line c.args.end)
    (end_line (length c.args.hops.now + 1)) c.from_residual-in_err-write.result
    c.from_residual-in_err-write.ensures.0 c.in_err-write.ensures))

pub returns : goal.returns
returns g c =
    writes_same c.args.output.now c.write_end.new.output _ _ c.write_end.result
    (append_assoc (flat_map hop_line c.args.hops.now) (trace_end_line c.args.end)
    (end_line (length c.args.hops.now + 1)))
    (writes_next c.args.output.now c.write_each.new.output c.write_end.new.output (flat_map hop_line c.args.hops.now)
    (trace_end_line c.args.end ++ end_line (length c.args.hops.now + 1)) c.write_end.result
    c.in_ok-write_each.ensures
    (writes_next c.write_each.new.output c.write.new.output c.write_end.new.output (trace_end_line c.args.end)
    (end_line (length c.args.hops.now + 1)) c.write_end.result c.in_ok-write.ensures
    (writes_same c.write.new.output c.write_end.new.output _ _ c.write_end.result
    (ap end_line (sym c.trace_line_count.ensures)) c.write_end.ensures)))
