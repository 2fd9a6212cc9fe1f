use Rattle.std.proofs.Common.{◌≡◌, ◌<◌, true, false, length, get_or, sym, subst}
use Rattle.net_conf.specs.declared.tables.Ends.{Ends}
use Rattle.net_conf.specs.Configuration.{ends_session}
use Rattle.net_conf.specs.Costs.{is_up}
use Rattle.net_conf.proofs.DownSessions.{down_at}
use Rattle.net_conf.proofs.kept.conf_trees.ConfTrees.down_still.Goals as goal

pub stays_down-requires-clause-low : goal.stays_down-requires-clause-low
stays_down-requires-clause-low c =
    let i = c.loop-ends.ends-index in
    let d : Ends = record { low = record { 0 = 0 }; high = record { 0 = 0 } } in
    subst (λ ks. ends_session c.args.self.now (get_or ks i d).low ≡ true) (sym c.requires.down)
    (down_at c.args.self.now i d (subst (λ ks. i < length ks) c.requires.down c.loop-ends-test.true)).low

pub stays_down-requires-clause-high : goal.stays_down-requires-clause-high
stays_down-requires-clause-high c =
    let i = c.loop-ends.ends-index in
    let d : Ends = record { low = record { 0 = 0 }; high = record { 0 = 0 } } in
    subst (λ ks. ends_session c.args.self.now (get_or ks i d).high ≡ true) (sym c.requires.down)
    (down_at c.args.self.now i d (subst (λ ks. i < length ks) c.requires.down c.loop-ends-test.true)).high

pub stays_down-requires-clause-down : goal.stays_down-requires-clause-down
stays_down-requires-clause-down c =
    let i = c.loop-ends.ends-index in
    let d : Ends = record { low = record { 0 = 0 }; high = record { 0 = 0 } } in
    subst (λ ks. is_up c.args.self.now (get_or ks i d).low (get_or ks i d).high ≡ false) (sym c.requires.down)
    (down_at c.args.self.now i d (subst (λ ks. i < length ks) c.requires.down c.loop-ends-test.true)).down
