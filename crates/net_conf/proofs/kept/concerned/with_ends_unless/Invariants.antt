use Rattle.std.proofs.Common.{◌≡◌, true, false, take}
use Rattle.std.specs.List.{list_any}
use Rattle.std.specs.BTreeMap.{is_at}
use Rattle.net_prefix.specs.declared.addr.Addr.{Addr}
use Rattle.net_conf.specs.declared.tables.Ends.{Ends}
use Rattle.net_conf.specs.Configuration.{ends_cmp, is_end}
use Rattle.net_conf.specs.Concerned.{is_among}
use Rattle.net_conf.proofs.kept.concerned.with_ends_unless.Given as goal

-- who is not among them ends none of the sessions so far that is not in the set
abbrev pub invariant-loop-ends : goal.invariant-loop-ends
invariant-loop-ends l = record {
  known : (r : Addr) → is_among r l.more.keys ≡ false → is_among r l.fn.addrs.keys ≡ false;
  added : (r : Addr) (e : Ends) → is_among r l.more.keys ≡ false → is_end r e ≡ true →
      list_any (is_at (ends_cmp e)) (take l.ends-index l.sessions) ≡ true →
      list_any (is_at (ends_cmp e)) l.known ≡ true;
}
