use Rattle.std.proofs.Common.{◌≡◌, min, length, filter, take}
use Rattle.shared_map.specs.EntryChunks.{entries_in}
use Rattle.net_conf.specs.Configuration.{is_end}
use Rattle.net_conf.proofs.tables.session_table.count_up_to.Given as goal

-- those in the chunks so far
abbrev pub invariant-loop-chunk : goal.invariant-loop-chunk
invariant-loop-chunk l =
    l.count ≡ min (length (filter (λ e. is_end l.addr e.0) (entries_in (take l.chunk-index l.chunks)))) l.many
