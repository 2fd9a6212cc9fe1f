use Rattle.std.proofs.Common.{◌≡◌, ◌∙◌, sym, ap, subst}
use Rattle.std.specs.List.{list_any}
use Rattle.std.specs.BTreeMap.{is_at}
use Rattle.net_prefix.specs.declared.addr.Addr.{Addr}
use Rattle.net_conf.specs.Configuration.{ends_cmp, has_link_up}
use Rattle.net_conf.specs.Costs.{is_up, down_sessions}
use Rattle.net_conf.specs.Kept.{CostsStayBut, IsLinked, IsTurned}
use Rattle.net_conf.proofs.DownSessions.{all_stay, one_state, same_down, same_sessions, stays_up_with, turned_is}
use Rattle.net_conf.proofs.kept.conf_sessions.ConfSessions.turned_by_link.Goals as goal

pub returns-then-has_link_up-was_up : goal.returns-then-has_link_up-was_up
returns-then-has_link_up-was_up c =
    let s = c.self.inside.trees in
    let d = c.args.after.now in
    let a = c.args.one in
    let b = c.args.other in
    let linked = subst (λ x. IsLinked x d a b) (sym c.self.view_is) c.requires.linked in
    let moved = subst (λ x. CostsStayBut x d c.args.moved.now.keys) (sym c.self.view_is) c.requires.moved in
    let before : c.has_link_up-was_up.result ≡ has_link_up s a b = c.has_link_up-was_up.ensures
    ∙ ap (λ x. has_link_up x a b) c.tables.ensures in
    let after : c.has_link_up.result ≡ has_link_up d a b = c.has_link_up.ensures
    ∙ ap (λ x. has_link_up x a b) c.tables-2.ensures in
    let same : has_link_up d a b ≡ has_link_up s a b = sym after ∙ one_state _ _ c.if-has_link_up-was_up.true
    ∙ before in
    let stay : (x y : Addr) → is_up d x y ≡ is_up s x y = all_stay s d (c.turn_with_link.ensures.down (λ up. same ∙ up))
    (c.turn_with_link.ensures.up (λ up. sym same ∙ up)) in
    let down : c.in_ok-down.down ≡ down_sessions d = c.in_ok-down.ensures.ok ∙ c.self.invariant
    ∙ sym (same_down s d (same_sessions s d a b linked) stay) in
    subst (λ x. IsTurned x d c.args.moved.now.keys c.in_ok-down.down c.new-turned.result.keys) c.self.view_is
    (turned_is s d a b linked c.args.moved.now.keys c.new-turned.result.keys c.in_ok-down.down moved down
    (λ r out u. stay u r))

pub returns : goal.returns
returns c =
    let s = c.args.self.now in
    let d = c.args.after.now in
    let was : c.self.inside.down ≡ down_sessions s = c.self.invariant ∙ ap (λ x. down_sessions x) c.self.view_is in
    turned_is s d c.args.one c.args.other c.requires.linked c.args.moved.now.keys c.in_ok-turned.turned.keys
    c.in_ok-down-2.down c.requires.moved c.in_ok-down-2.ensures
    (λ r out. stays_up_with s d c.args.one c.args.other r c.requires.linked (λ e end.
    ap (list_any (is_at (ends_cmp e))) (sym c.in_ok-down-2.ensures) ∙ c.in_ok-turned.ensures r e out end
    ∙ ap (list_any (is_at (ends_cmp e))) was))
