use Rattle.std.proofs.Common.{◌≡◌, ◌<◌, true, length, get_or, ap, sym, subst, ◌∙◌}
use Rattle.std.specs.List.{list_any}
use Rattle.std.specs.Map.{keys_of}
use Rattle.std.specs.BTreeMap.{is_at}
use Rattle.net_conf.specs.declared.tables.Ends.{Ends}
use Rattle.net_conf.specs.Configuration.{ends_cmp, ends_session}
use Rattle.net_conf.proofs.DownSessions.{session_at}
use Rattle.net_conf.proofs.LinkConcerns.{low_ends, high_ends}
use Rattle.net_conf.proofs.kept.conf_trees.ConfTrees.down_then.Goals as goal

pub is_down_then-requires-clause-there : goal.is_down_then-requires-clause-there
is_down_then-requires-clause-there c =
    let i = c.loop-ends.ends-index in
    let d : Ends = record { low = record { 0 = 0 }; high = record { 0 = 0 } } in
    let same = c.deref-ends-items.ensures.value ∙ c.in_ok-sessions.ensures
    ∙ ap (λ x. keys_of x.sessions) c.self.view_is in
    subst (λ ks. list_any (is_at (ends_cmp (get_or ks i d))) (keys_of c.args.self.now.sessions) ≡ true)
    (sym same)
    (session_at c.args.self.now i d (subst (λ ks. i < length ks) same c.loop-ends-test.true))

pub is_down_then-requires-clause-low : goal.is_down_then-requires-clause-low
is_down_then-requires-clause-low c =
    let i = c.loop-ends.ends-index in
    let d : Ends = record { low = record { 0 = 0 }; high = record { 0 = 0 } } in
    let same = c.deref-ends-items.ensures.value ∙ c.in_ok-sessions.ensures
    ∙ ap (λ x. keys_of x.sessions) c.self.view_is in
    subst (λ ks. ends_session c.args.self.now (get_or ks i d).low ≡ true) (sym same)
    (low_ends c.args.self.now i d (subst (λ ks. i < length ks) same c.loop-ends-test.true))

pub is_down_then-requires-clause-high : goal.is_down_then-requires-clause-high
is_down_then-requires-clause-high c =
    let i = c.loop-ends.ends-index in
    let d : Ends = record { low = record { 0 = 0 }; high = record { 0 = 0 } } in
    let same = c.deref-ends-items.ensures.value ∙ c.in_ok-sessions.ensures
    ∙ ap (λ x. keys_of x.sessions) c.self.view_is in
    subst (λ ks. ends_session c.args.self.now (get_or ks i d).high ≡ true) (sym same)
    (high_ends c.args.self.now i d (subst (λ ks. i < length ks) same c.loop-ends-test.true))
