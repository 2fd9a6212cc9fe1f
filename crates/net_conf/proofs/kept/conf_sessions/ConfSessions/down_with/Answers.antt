use Rattle.std.proofs.Common.{◌≡◌, ◌∙◌, sym, ap, subst}
use Rattle.std.specs.List.Sorted.{IsStrictlySortedBy}
use Rattle.std.specs.Set.{remove_key}
use Rattle.std.specs.BTreeMap.{is_at}
use Rattle.std.specs.BTreeSet.{insert_key}
use Rattle.net_conf.specs.Configuration.{ends_of, ends_cmp}
use Rattle.net_conf.specs.Costs.{down_sessions}
use Rattle.net_conf.specs.Kept.{IsJoined}
use Rattle.net_conf.proofs.DownSessions.{down_in_order, down_with_one, down_without_one}
use Rattle.net_conf.proofs.kept.conf_sessions.ConfSessions.down_with.Goals as goal

pub returns-in_ok-remove : goal.returns-in_ok-remove
returns-in_ok-remove c =
    let s = c.self.inside.trees in
    let d = c.args.after.now in
    let a = c.args.one in
    let b = c.args.other in
    let joined = subst (λ x. IsJoined x d a b) (sym c.self.view_is) c.requires in
    let was : c.in_ok-down.down ≡ down_sessions s = c.in_ok-down.ensures.ok ∙ c.self.invariant in
    let is : c.remove.new.self ≡ remove_key (is_at (ends_cmp (ends_of a b))) (down_sessions s) =
    c.in_ok-remove.ensures.ok ∙ ap (λ e. remove_key (is_at (ends_cmp e)) c.in_ok-down.down) c.of-ends.ensures
    ∙ ap (remove_key (is_at (ends_cmp (ends_of a b)))) was in
    is
    ∙ down_without_one s d a b joined c.facts.ensures.configured.sessions_apart
    (down_in_order s c.facts.ensures.configured.ordered.sessions) c.facts-2.ensures.configured.ordered.sessions
    (sym c.is_up.ensures ∙ c.if-is_up.true)
    (subst (IsStrictlySortedBy ends_cmp) is c.order.ensures)

pub returns-in_ok-insert : goal.returns-in_ok-insert
returns-in_ok-insert c =
    let s = c.self.inside.trees in
    let d = c.args.after.now in
    let a = c.args.one in
    let b = c.args.other in
    let joined = subst (λ x. IsJoined x d a b) (sym c.self.view_is) c.requires in
    let was : c.in_ok-down.down ≡ down_sessions s = c.in_ok-down.ensures.ok ∙ c.self.invariant in
    let is : c.insert.new.self ≡ insert_key ends_cmp (down_sessions s) (ends_of a b) = c.in_ok-insert.ensures.ok
    ∙ ap (λ e. insert_key ends_cmp c.in_ok-down.down e) c.of-ends.ensures
    ∙ ap (λ ks. insert_key ends_cmp ks (ends_of a b)) was in
    is
    ∙ down_with_one s d a b joined c.facts.ensures.configured.sessions_apart
    (down_in_order s c.facts.ensures.configured.ordered.sessions) c.facts-2.ensures.configured.ordered.sessions
    (sym c.is_up.ensures ∙ c.if-is_up.false)
    (subst (IsStrictlySortedBy ends_cmp) is c.order-else-is_up.ensures)
