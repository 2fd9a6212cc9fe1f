use Rattle.std.proofs.Common.{List, Some, None, sym, ap, ◌∙◌, ◌++◌, subst}
use Rattle.std.specs.Map.{lookup}
use Rattle.std.specs.BTreeMap.{is_at}
use Rattle.net_prefix.specs.declared.addr.Addr.{Addr}
use Rattle.net_prefix.specs.Address.{addr_cmp}
use Rattle.igp_cost.specs.declared.label.Label.{Label}
use Rattle.igp_cost.specs.Trees.{Reached, label_in}
use Rattle.igp_cost.specs.Wired.{AreAscending}
use Rattle.igp_cost.proofs.Apart.{front_rises, back_rises, found_front, found_back}
use Rattle.igp_cost.proofs.least_trees.tree.Tree.label.Goals as goal

pub label_among-requires : goal.label_among-requires
label_among-requires c =
    subst AreAscending (sym c.as_slice.ensures) (front_rises c.self.inside.rows c.self.inside.last c.self.invariant)

pub label_among-requires-in-None : goal.label_among-requires-in-None
label_among-requires-in-None c = subst AreAscending (sym c.as_slice-in-None.ensures)
    (back_rises c.self.inside.rows c.self.inside.last c.self.invariant)

pub returns-in-Some : goal.returns-in-Some
returns-in-Some c =
    let to = c.args.to in
    let here = sym (ap (λ (l : List (Addr × Label)). lookup (is_at (addr_cmp to)) l) c.as_slice.ensures)
    ∙ sym c.label_among.ensures ∙ c.in-Some.is in
    sym (found_front c.self.inside.rows c.self.inside.last to c.in-Some.label here)
    ∙ ap (λ (t : Reached). label_in t to) c.self.view_is

pub returns-in-None : goal.returns-in-None
returns-in-None c =
    let to = c.args.to in
    let none = sym (ap (λ (l : List (Addr × Label)). lookup (is_at (addr_cmp to)) l) c.as_slice.ensures)
    ∙ sym c.label_among.ensures ∙ c.in-None.is in
    c.label_among-in-None.ensures
    ∙ ap (λ (l : List (Addr × Label)). lookup (is_at (addr_cmp to)) l) c.as_slice-in-None.ensures
    ∙ sym (found_back c.self.inside.rows c.self.inside.last to none)
    ∙ ap (λ (t : Reached). label_in t to) c.self.view_is
