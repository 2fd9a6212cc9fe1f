use Rattle.std.proofs.Common.{◌≡◌, List, Err, sym, ap, ◌∙◌, ◌++◌, subst, rules, append-nil}
use Rattle.std.specs.List.{insert}
use Rattle.std.specs.Map.{lookup}
use Rattle.std.specs.BTreeMap.{is_at}
use Rattle.std.proofs.lemmas.List.Sorted.{answers_always}
use Rattle.net_prefix.specs.declared.addr.Addr.{Addr}
use Rattle.net_prefix.specs.Address.{addr_cmp}
use Rattle.igp_cost.specs.declared.label.Label.{Label}
use Rattle.igp_cost.specs.Trees.{Reached, source_of, label_in}
use Rattle.igp_cost.specs.Wired.{no_row, AreAscending}
use Rattle.igp_cost.proofs.Places.{searched, searched_between, lookup_none}
use Rattle.igp_cost.proofs.OneMore.{insert_rises, insert_others}
use Rattle.igp_cost.proofs.least_trees.tree.Tree.with_inserted.Goals as goal

pub invariant_of-result : goal.invariant_of-result
invariant_of-result c =
    let rows = c.deref.result.now in
    let row : Addr × Label = (c.args.to, c.args.label) in
    let by_key = c.in-Err.ensures.position (λ row. row.0.0) (answers_always _ _ _ (λ f a r g called. search rules)) in
    let labels : rows ≡ c.args.self.now.labels = c.deref.ensures.value ∙ c.in_ok-rows.ensures in
    let rising = subst AreAscending (ap (λ (t : Reached). t.labels) c.self.view_is ∙ sym labels) c.self.invariant in
    let between = searched_between (λ (row : Addr × Label). row.0.0) no_row rows rising c.args.to.0
    c.in-Err.at by_key in
    let is : c.in_ok-of-in-Err.field-0 ++ c.empty.result ≡ insert rows c.in-Err.at row = search rules in
    subst AreAscending (sym is)
    (insert_rises rows c.in-Err.at row rising c.in-Err.ensures.bound between.below between.above)

pub returns-in_ok-of-in-Err : goal.returns-in_ok-of-in-Err
returns-in_ok-of-in-Err c =
    let rows = c.deref.result.now in
    let made = c.in_ok-of-in-Err.field-0 ++ c.empty.result in
    let row : Addr × Label = (c.args.to, c.args.label) in
    let by_key = c.in-Err.ensures.position (λ row. row.0.0) (answers_always _ _ _ (λ f a r g called. search rules)) in
    let labels : rows ≡ c.args.self.now.labels = c.deref.ensures.value ∙ c.in_ok-rows.ensures in
    let rising = subst AreAscending (ap (λ (t : Reached). t.labels) c.self.view_is ∙ sym labels) c.self.invariant in
    let none = (searched (λ (row : Addr × Label). row.0.0) no_row rows rising c.args.to.0
    (Err c.in-Err.at) c.in-Err.ensures.bound by_key).absent in
    let absent = lookup_none no_row rows c.args.to (λ i lt same. none i lt (ap (λ (y : Addr). y.0) same)) in
    let between = searched_between (λ (row : Addr × Label). row.0.0) no_row rows rising c.args.to.0
    c.in-Err.at by_key in
    let is : made ≡ insert rows c.in-Err.at row = search rules in
    let said : Addr → List (Addr × Label) → Reached = λ a l. record { source = a; labels = l } in
    let label_of : (y : Addr) → lookup (is_at (addr_cmp y)) rows ≡ label_in c.args.self.now y =
    λ y. ap (λ (rows : List (Addr × Label)). lookup (is_at (addr_cmp y)) rows) labels in
    record {
      rows = made;
      is = ap (λ a. said a made) (ap source_of c.self.view_is);
      ascending = subst AreAscending (sym is)
          (insert_rises rows c.in-Err.at row rising c.in-Err.ensures.bound between.below between.above);
      unknown = sym (label_of c.args.to) ∙ absent;
      others = λ y differs. ap (λ (l : List (Addr × Label)). lookup (is_at (addr_cmp y)) l) is
          ∙ insert_others rows c.in-Err.at row y differs ∙ label_of y;
    }
