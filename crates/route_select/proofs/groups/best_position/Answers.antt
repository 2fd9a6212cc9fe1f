use Rattle.std.proofs.Common.{◌≡◌, ◌<◌, length, cond, true, false, refl, ℕ, Bool, Some, sym, subst, ◌∙◌, arith}
use Rattle.route_select.specs.Entries.{candidate_at}
use Rattle.route_select.specs.Groups.{is_better}
use Rattle.route_select.proofs.GroupLeaders.{LeadersUpTo, leaders_start, leaders_more, leaders_all, goes_on}
use Rattle.route_select.proofs.GroupPositions.{has_position}
use Rattle.route_select.proofs.groups.best_position.Goals as goal
use Rattle.route_select.proofs.groups.best_position.Goals.{then-is_better, else-is_better}

-- a choice between a position and itself
chosen_same : (b : Bool) (n : ℕ) → cond b n n ≡ n
chosen_same true n = refl
chosen_same false n = refl

pub returns-in_default-clause-best : goal.returns-in_default-clause-best
returns-in_default-clause-best c = leaders_all c.args.med_always c.args.entries.now 0 0 c.requires
    (leaders_start c.args.med_always c.args.entries.now c.requires) (sym c.in_default.ensures)

pub loop-leader-init : goal.loop-leader-init
loop-leader-init c =
    let always = c.args.med_always in
    let es = c.args.entries.now in
    let next = c.group_end-at.result in
    subst (LeadersUpTo always es next) (chosen_same (is_better always (candidate_at es 0) (candidate_at es 0)) 0)
    (leaders_more always es 0 0 next _ c.requires (leaders_start always es c.requires)
    (sym c.in-Some.ensures) c.group_end-at.ensures)

pub loop-leader-preserved : goal.loop-leader-preserved
loop-leader-preserved c =
    let always = c.args.med_always in
    let es = c.args.entries.now in
    let at = c.loop-leader.at in
    let best = c.loop-leader.best in
    let next = c.group_end-at-in-Some-candidate_at.result in
    let here : candidate_at es at ≡ Some c.in-Some-candidate_at.leader.now = sym c.in-Some-candidate_at.ensures in
    let more = leaders_more always es at best next _ c.requires c.loop-leader.invariant here
    c.group_end-at-in-Some-candidate_at.ensures in
    elim c.if-is_better.branch [
      | then-is_better w ↦ rw w.best-is (subst (λ b. LeadersUpTo always es next (cond b at best))
          (sym c.is_better.ensures ∙ w.if-is_better.true) more)
      | else-is_better w ↦ rw w.best-is (subst (λ b. LeadersUpTo always es next (cond b at best))
          (sym c.is_better.ensures ∙ w.if-is_better.false) more)
    ]

pub loop-leader-smaller : goal.loop-leader-smaller
loop-leader-smaller c =
    let always = c.args.med_always in
    let es = c.args.entries.now in
    let at = c.loop-leader.at in
    let here : candidate_at es at ≡ Some c.in-Some-candidate_at.leader.now = sym c.in-Some-candidate_at.ensures in
    let on : at < c.group_end-at-in-Some-candidate_at.result =
    goes_on always es at _ _ here c.group_end-at-in-Some-candidate_at.ensures in
    let within : at < length es = has_position es at _ here in
    omega arith

pub returns-clause-best : goal.returns-clause-best
returns-clause-best c = leaders_all c.args.med_always c.args.entries.now c.loop-leader.at c.loop-leader.best c.requires
    c.loop-leader.invariant (sym c.in_default-candidate_at.ensures)

pub returns-clause-bound : goal.returns-clause-bound
returns-clause-bound c =
    let behind = c.loop-leader.invariant.behind_best in
    let within = c.loop-leader.invariant.in_range in
    omega arith
