-- What Contains and Covers say, as tests.
use Rattle.std.specs.Prelude.{Bool, ◌==◌, ◌&&◌, nat_le}
use Rattle.net_prefix.specs.declared.addr.Addr.{Addr}
use Rattle.net_prefix.specs.Prefix.{Prefix, first_bits}

abbrev pub contains : Prefix → Addr → Bool
contains p a = first_bits p.len a == first_bits p.len p.addr

abbrev pub covers : Prefix → Prefix → Bool
covers p q = nat_le p.len q.len && contains p q.addr
