use Rattle.std.proofs.Common.{◌≡◌, false, take}
use Rattle.net_prefix.specs.declared.addr.Addr.{Addr}
use Rattle.net_conf.specs.Concerned.{is_among}
use Rattle.net_conf.proofs.kept.concerned.with_each.Given as goal

-- who is not among them is none of those so far
abbrev pub invariant-loop-addr : goal.invariant-loop-addr
invariant-loop-addr l = record {
  known : (r : Addr) → is_among r l.all.keys ≡ false → is_among r l.fn.addrs.keys ≡ false;
  added : (r : Addr) → is_among r l.all.keys ≡ false → is_among r (take l.addr-index l.more) ≡ false;
}
