use Rattle.std.proofs.Common.{◌≡◌, List, ℕ, length, find, option_map, ap, subst, sym, ◌∙◌}
use Rattle.route_policy.specs.Judging.{matches}
use Rattle.route_policy.specs.PathSplit.{Split, path_numbers, other_rules, first_held, by_place}
use Rattle.route_policy.specs.declared.rule.Action.{Action}
use Rattle.route_policy.specs.declared.rule.Rule.{Rule}
use Rattle.route_policy.proofs.PathSplits.{passed_by, found_by_place}
use Rattle.route_policy.proofs.policy.first_by_split.Goals as goal

pub returns-then-place-number_count : goal.returns-then-place-number_count
returns-then-place-number_count c =
    let p = c.args.prefix in
    let a = c.args.attr.now in
    let rules = c.args.rules.now in
    let numbers : c.args.split.now.numbers ≡ path_numbers rules = ap (λ (s : Split). s.numbers) c.requires in
    let others : c.others.result.now ≡ other_rules rules = c.others.ensures ∙ ap (λ (s : Split). s.others) c.requires in
    let end : first_held (path_numbers rules) a.path ≡ length (path_numbers rules) =
    subst (λ ns. first_held ns a.path ≡ length ns) numbers (sym c.first_held-place.ensures
    ∙ c.if-place-number_count.true ∙ c.number_count.ensures) in
    c.first_of.ensures
    ∙ ap (λ (rs : List Rule). option_map {U = Action} (λ r. r.act) (find (λ r. matches r.cond p a) rs)) others
    ∙ ap (option_map {U = Action} (λ (r : Rule). r.act)) (passed_by p a rules end)

pub returns-else-place-number_count : goal.returns-else-place-number_count
returns-else-place-number_count c =
    let p = c.args.prefix in
    let a = c.args.attr.now in
    let rules = c.args.rules.now in
    let numbers : c.args.split.now.numbers ≡ path_numbers rules = ap (λ (s : Split). s.numbers) c.requires in
    let place : c.first_held-place.result ≡ first_held (path_numbers rules) a.path =
    subst (λ ns. c.first_held-place.result ≡ first_held ns a.path) numbers c.first_held-place.ensures in
    c.first_by_place.ensures
    ∙ ap (λ (k : ℕ). option_map {U = Action} (λ r. r.act) (by_place p a k rules)) place
    ∙ ap (option_map {U = Action} (λ (r : Rule). r.act)) (found_by_place p a rules)
