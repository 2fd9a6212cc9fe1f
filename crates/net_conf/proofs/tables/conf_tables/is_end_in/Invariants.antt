use Rattle.std.proofs.Common.{◌≡◌, ◌==◌, take}
use Rattle.std.specs.List.{list_any}
use Rattle.shared_map.specs.Chunks.{keys_in}
use Rattle.net_conf.proofs.tables.conf_tables.is_end_in.Given as goal

-- whether it is in the chunks so far
abbrev pub invariant-loop-chunk : goal.invariant-loop-chunk
invariant-loop-chunk l =
    l.is_found ≡ list_any (λ e. e.router.0 == l.router.0) (keys_in (take l.chunk-index l.chunks))
