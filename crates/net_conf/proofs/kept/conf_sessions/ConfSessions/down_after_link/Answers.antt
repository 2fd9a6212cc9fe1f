use Rattle.std.proofs.Common.{◌≡◌, ◌∙◌, true, filter, sym, ap, subst}
use Rattle.std.specs.List.Sorted.{IsStrictlySortedBy}
use Rattle.std.proofs.lemmas.Result.{IfOk-weaker}
use Rattle.net_conf.specs.Configuration.{ends_cmp, has_link_up}
use Rattle.net_conf.specs.Costs.{down_sessions}
use Rattle.net_conf.specs.Kept.{AreDown, IsLinked}
use Rattle.net_conf.proofs.DownSessions.{is_down, down_in_order, left_down}
use Rattle.net_conf.proofs.kept.conf_sessions.ConfSessions.down_after_link.Goals as goal

pub of-requires : goal.of-requires
of-requires c =
    let s = c.self.inside.trees in
    let d = c.args.after.now in
    let a = c.args.one in
    let b = c.args.other in
    let up : has_link_up d a b ≡ true = ap (λ x. has_link_up x a b) (sym c.tables.ensures) ∙ sym c.has_link_up.ensures
    ∙ c.if-has_link_up.true in
    let linked = subst (λ x. IsLinked x d a b) (sym c.self.view_is) c.requires.linked in
    let was : c.deref.result.now ≡ down_sessions s = c.deref.ensures.value ∙ c.in_ok-were.ensures ∙ c.self.invariant in
    let is : c.in_ok-down.down.items ≡ down_sessions d = c.in_ok-down.ensures ∙ ap (filter (is_down d)) was
    ∙ left_down s d a b linked (c.turn_with_link.ensures.down (λ _. up)) in
    subst (IsStrictlySortedBy ends_cmp) (sym is) (down_in_order d c.facts.ensures.configured.ordered.sessions)

pub of-requires-else-has_link_up : goal.of-requires-else-has_link_up
of-requires-else-has_link_up c =
    subst (IsStrictlySortedBy ends_cmp) (sym c.in_ok-down-2.ensures)
    (down_in_order c.args.after.now c.facts.ensures.configured.ordered.sessions)

pub returns-in_ok-down : goal.returns-in_ok-down
returns-in_ok-down c =
    let s = c.self.inside.trees in
    let d = c.args.after.now in
    let a = c.args.one in
    let b = c.args.other in
    let up : has_link_up d a b ≡ true = ap (λ x. has_link_up x a b) (sym c.tables.ensures) ∙ sym c.has_link_up.ensures
    ∙ c.if-has_link_up.true in
    let linked = subst (λ x. IsLinked x d a b) (sym c.self.view_is) c.requires.linked in
    let was : c.deref.result.now ≡ down_sessions s = c.deref.ensures.value ∙ c.in_ok-were.ensures ∙ c.self.invariant in
    let is : c.in_ok-down.down.items ≡ down_sessions d = c.in_ok-down.ensures ∙ ap (filter (is_down d)) was
    ∙ left_down s d a b linked (c.turn_with_link.ensures.down (λ _. up)) in
    IfOk-weaker c.of.result (λ set. set ≡ c.in_ok-down.down.items) (λ set. AreDown d set) (λ set same. same
    ∙ is) c.of.ensures.ok
