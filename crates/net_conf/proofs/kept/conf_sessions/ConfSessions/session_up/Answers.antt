use Rattle.std.proofs.Common.{◌≡◌, ◌∙◌, true, false, not, Some, sym, ap}
use Rattle.std.specs.List.{list_any}
use Rattle.std.specs.BTreeMap.{is_at}
use Rattle.net_conf.specs.Configuration.{has_session, ends_of, ends_cmp}
use Rattle.net_conf.specs.Costs.{session_up}
use Rattle.net_conf.proofs.DownSessions.{state_found, state_missing}
use Rattle.net_conf.proofs.kept.conf_sessions.ConfSessions.session_up.Goals as goal

pub returns-then-has_session : goal.returns-then-has_session
returns-then-has_session c =
    let s = c.self.inside.trees in
    let a = c.args.one in
    let b = c.args.other in
    let there : has_session s a b ≡ true = ap (λ x. has_session x a b) (sym c.tables.ensures)
    ∙ sym c.has_session.ensures ∙ c.if-has_session.true in
    ap (λ t. Some (not t))
    (c.contains.ensures
    ∙ ap (λ e. list_any (is_at (ends_cmp e)) c.self.inside.down) c.of.ensures
    ∙ ap (list_any (is_at (ends_cmp (ends_of a b)))) c.self.invariant)
    ∙ state_found s a b there
    ∙ ap (λ x. session_up x a b) c.self.view_is

pub returns-else-has_session : goal.returns-else-has_session
returns-else-has_session c =
    let s = c.self.inside.trees in
    let a = c.args.one in
    let b = c.args.other in
    let none : has_session s a b ≡ false = ap (λ x. has_session x a b) (sym c.tables.ensures)
    ∙ sym c.has_session.ensures ∙ c.if-has_session.false in
    sym (state_missing s a b none) ∙ ap (λ x. session_up x a b) c.self.view_is
