-- A node's own entry, then those below its lower half, then those below its upper half.
use Rattle.std.proofs.Common.{◌≡◌, ◌<◌, ◌++◌, [], length, true, false, Some, ap, sym, subst, ◌∙◌, append_assoc, arith, rules}
use Rattle.std.proofs.lemmas.List.{append-nil}
use Rattle.std.proofs.lemmas.Result.{on_ok_weaker}
use Rattle.std.specs.Option.{IfSome}
use Rattle.prefix_table.specs.Tables.{all_seen}
use Rattle.prefix_table.specs.Trie.{entries_below, entry_or_not, prefix_at, place_at, child_at}
use Rattle.prefix_table.proofs.Halves.{none_below, bits_left, child_here, child_nearer, halves}
use Rattle.prefix_table.specs.Values.{with_values}
use Rattle.prefix_table.proofs.Values.{with_values-append}
use Rattle.prefix_table.proofs.walk.+add_below.Goals as goal

pub returns-in_default : goal.returns-in_default
returns-in_default g t c =
    let none = ap (λ o. with_values c.args.values.now (entries_below c.args.nodes.now o)) c.in_default.is
    ∙ ap (with_values c.args.values.now) (none_below c.args.nodes.now) in
    sym (append-nil (all_seen c.args.entries.now.items)) ∙ ap (λ l. all_seen c.args.entries.now.items ++ l) (sym none)

pub add_below-requires : goal.add_below-requires
add_below-requires g t c =
    let ns = c.args.nodes.now in
    let here : c.in-Some.at.0 < length ns =
    subst (λ o. IfSome o (λ node. node.0 < length ns)) c.in-Some.is c.requires.here in
    let nearer = child_nearer ns c.requires.trie c.in-Some.at here false in
    let child : IfSome c.child_below.result (λ k. k.0 < length ns) =
    subst (λ o. IfSome o (λ k. k.0 < length ns)) (sym c.child_below.ensures)
    (child_here ns c.requires.trie c.in-Some.at here false) in
    let less : bits_left ns c.child_below.result < bits_left ns (Some c.in-Some.at) =
    subst (λ o. bits_left ns o < bits_left ns (Some c.in-Some.at)) (sym c.child_below.ensures) nearer in
    let same : bits_left ns c.args.at ≡ bits_left ns (Some c.in-Some.at) = ap (bits_left ns) c.in-Some.is in
    λ κs within. (omega (arith, less, same), (search rules, (c.requires.trie, (c.requires.placed, child))))

pub add_below-requires-2 : goal.add_below-requires-2
add_below-requires-2 g t c =
    let ns = c.args.nodes.now in
    let here : c.in-Some.at.0 < length ns =
    subst (λ o. IfSome o (λ node. node.0 < length ns)) c.in-Some.is c.requires.here in
    let nearer = child_nearer ns c.requires.trie c.in-Some.at here true in
    let child : IfSome c.child_below-2.result (λ k. k.0 < length ns) =
    subst (λ o. IfSome o (λ k. k.0 < length ns)) (sym c.child_below-2.ensures)
    (child_here ns c.requires.trie c.in-Some.at here true) in
    let less : bits_left ns c.child_below-2.result < bits_left ns (Some c.in-Some.at) =
    subst (λ o. bits_left ns o < bits_left ns (Some c.in-Some.at)) (sym c.child_below-2.ensures) nearer in
    let same : bits_left ns c.args.at ≡ bits_left ns (Some c.in-Some.at) = ap (bits_left ns) c.in-Some.is in
    λ κs within. (omega (arith, less, same), (search rules, (c.requires.trie, (c.requires.placed, child))))

pub returns : goal.returns
returns g t c =
    let ns = c.args.nodes.now in
    let vs = c.args.values.now in
    let here : c.in-Some.at.0 < length ns =
    subst (λ o. IfSome o (λ node. node.0 < length ns)) c.in-Some.is c.requires.here in
    let old = all_seen c.args.entries.now.items in
    let own = entry_or_not (prefix_at ns c.in-Some.at.0) (place_at ns c.in-Some.at.0) [] in
    let low = entries_below ns (child_at ns false c.in-Some.at.0) in
    let high = entries_below ns (child_at ns true c.in-Some.at.0) in
    let all = ap (λ o. with_values vs (entries_below ns o)) c.in-Some.is
    ∙ ap (with_values vs) (halves ns c.requires.trie c.in-Some.at here)
    ∙ with_values-append vs own (low ++ high) ∙ ap (λ l. with_values vs own ++ l) (with_values-append vs low high) in
    on_ok_weaker c.add_below-2.result (λ last.
    last
    ∙ ap (λ o. all_seen c.add_below.new.entries.items ++ with_values vs (entries_below ns o)) c.child_below-2.ensures
    ∙ ap (λ l. l ++ with_values vs high) (c.in_ok-add_below.ensures
    ∙ ap (λ o. all_seen c.add_own.new.entries.items ++ with_values vs (entries_below ns o)) c.child_below.ensures
    ∙ ap (λ l. l ++ with_values vs low) c.in_ok-add_own.ensures)
    ∙ append_assoc (old ++ with_values vs own) (with_values vs low) (with_values vs high)
    ∙ append_assoc old (with_values vs own) (with_values vs low ++ with_values vs high)
    ∙ ap (λ l. old ++ l) (sym all)) c.add_below-2.ensures
