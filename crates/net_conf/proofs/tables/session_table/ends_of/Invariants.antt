use Rattle.std.proofs.Common.{◌≡◌, take}
use Rattle.std.specs.Map.{keys_of}
use Rattle.shared_map.specs.EntryChunks.{entries_in}
use Rattle.net_conf.proofs.tables.session_table.ends_of.Given as goal

-- those in the chunks so far
abbrev pub invariant-loop-chunk : goal.invariant-loop-chunk
invariant-loop-chunk l = l.ends.items ≡ keys_of (entries_in (take l.chunk-index l.chunks))
