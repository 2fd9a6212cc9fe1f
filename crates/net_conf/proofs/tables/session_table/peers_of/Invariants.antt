use Rattle.std.proofs.Common.{◌≡◌, map, filter, take}
use Rattle.shared_map.specs.EntryChunks.{entries_in}
use Rattle.net_conf.specs.Configuration.{is_end}
use Rattle.net_conf.specs.Sites.{peer_in}
use Rattle.net_conf.proofs.tables.session_table.peers_of.Given as goal

-- those in the chunks so far
abbrev pub invariant-loop-chunk : goal.invariant-loop-chunk
invariant-loop-chunk l =
    l.peers.items ≡ map (λ e. peer_in l.addr e.0)
    (filter (λ e. is_end l.addr e.0) (entries_in (take l.chunk-index l.chunks)))
