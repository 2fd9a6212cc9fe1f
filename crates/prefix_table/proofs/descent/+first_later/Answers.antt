-- The node itself comes first, then its lower half, then its upper half.
use Rattle.std.proofs.Common.{◌<◌, length, true, false, sym, ◌∙◌, arith}
use Rattle.std.proofs.lemmas.Bool.{false≢true}
use Rattle.std.proofs.lemmas.Option.{IfSome_then}
use Rattle.prefix_table.proofs.Paths.{IfNone_then}
use Rattle.prefix_table.specs.Trie.{prefix_at}
use Rattle.prefix_table.proofs.Paths.{NoneIn, first_here, none_in_empty, none_in_child, first_in_low, first_in_high, none_later}
use Rattle.prefix_table.proofs.descent.+first_later.Goals.{in-Some+in_default-first_later, in_default}
use Rattle.prefix_table.proofs.descent.+first_later.Goals as goal

pub returns-then-is_later-clause-found : goal.returns-then-is_later-clause-found
returns-then-is_later-clause-found t c =
    let later = c.is_later.ensures.0 c.if-is_later.true in
    first_here c.args.nodes.now c.requires.trie c.args.at.0 c.requires.here c.args.after later.valued later.later

pub first_later-requires : goal.first_later-requires
first_later-requires t c =
    let below = c.requires.trie.below c.args.at.0 false c.in-Some.low c.requires.here (sym c.in-Some.ensures) in
    let longer : (prefix_at c.args.nodes.now c.args.at.0).len < (prefix_at c.args.nodes.now c.in-Some.low.0).len =
    below.under.longer in
    let short = (c.requires.trie.blocks c.in-Some.low.0 below.in_range).0 in
    let here : c.in-Some.low.0 < length c.args.nodes.now = below.in_range in
    (omega arith, (c.requires.trie, here))

pub returns-in-Some-first_later-clause-found : goal.returns-in-Some-first_later-clause-found
returns-in-Some-first_later-clause-found t c =
    first_in_low c.args.nodes.now c.requires.trie c.args.at.0 c.requires.here c.args.after c.in-Some.low
    c.in-Some-first_later.found.0 (λ later. false≢true (sym c.if-is_later.false ∙ c.is_later.ensures.1 later))
    (sym c.in-Some.ensures) c.in-Some-first_later.ensures.found

pub returns-in_err-child_below-clause-none : goal.returns-in_err-child_below-clause-none
returns-in_err-child_below-clause-none t c =
    let low : NoneIn c.args.nodes.now c.requires.trie c.args.at.0 c.requires.here c.args.after false =
    elim c.match-child_below.branch [
      | in-Some+in_default-first_later w ↦
          none_in_child c.args.nodes.now c.requires.trie c.args.at.0 c.requires.here c.args.after false w.in-Some.low
          (sym w.in-Some.ensures) w.in_default-first_later.ensures.none
      | in_default w ↦ none_in_empty c.args.nodes.now c.requires.trie c.args.at.0 c.requires.here c.args.after false
          (sym w.in_default.ensures)
    ] in
    rw c.from_residual.ensures (none_later c.args.nodes.now c.requires.trie c.args.at.0 c.requires.here c.args.after
    (λ later. false≢true (sym c.if-is_later.false ∙ c.is_later.ensures.1 later)) low
    (none_in_empty c.args.nodes.now c.requires.trie c.args.at.0 c.requires.here c.args.after true
    (sym c.child_below-2.ensures ∙ c.in_err-child_below.was)))

pub first_later-requires-2 : goal.first_later-requires-2
first_later-requires-2 t c =
    let below = c.requires.trie.below c.args.at.0 true c.in_ok-child_below.field-0 c.requires.here
    (sym c.child_below-2.ensures ∙ c.in_ok-child_below.was) in
    let longer : (prefix_at c.args.nodes.now c.args.at.0).len
    < (prefix_at c.args.nodes.now c.in_ok-child_below.field-0.0).len = below.under.longer in
    let short = (c.requires.trie.blocks c.in_ok-child_below.field-0.0 below.in_range).0 in
    let here : c.in_ok-child_below.field-0.0 < length c.args.nodes.now = below.in_range in
    (omega arith, (c.requires.trie, here))

pub returns-clause-found : goal.returns-clause-found
returns-clause-found t c =
    let low : NoneIn c.args.nodes.now c.requires.trie c.args.at.0 c.requires.here c.args.after false =
    elim c.match-child_below.branch [
      | in-Some+in_default-first_later w ↦
          none_in_child c.args.nodes.now c.requires.trie c.args.at.0 c.requires.here c.args.after false w.in-Some.low
          (sym w.in-Some.ensures) w.in_default-first_later.ensures.none
      | in_default w ↦ none_in_empty c.args.nodes.now c.requires.trie c.args.at.0 c.requires.here c.args.after false
          (sym w.in_default.ensures)
    ] in
    IfSome_then c.first_later-2.result c.first_later-2.ensures.found
    (λ found later. first_in_high c.args.nodes.now c.requires.trie c.args.at.0 c.requires.here c.args.after
    c.in_ok-child_below.field-0 found.0 (λ later. false≢true (sym c.if-is_later.false ∙ c.is_later.ensures.1 later))
    low (sym c.child_below-2.ensures ∙ c.in_ok-child_below.was) later)

pub returns-clause-none : goal.returns-clause-none
returns-clause-none t c =
    let low : NoneIn c.args.nodes.now c.requires.trie c.args.at.0 c.requires.here c.args.after false =
    elim c.match-child_below.branch [
      | in-Some+in_default-first_later w ↦
          none_in_child c.args.nodes.now c.requires.trie c.args.at.0 c.requires.here c.args.after false w.in-Some.low
          (sym w.in-Some.ensures) w.in_default-first_later.ensures.none
      | in_default w ↦ none_in_empty c.args.nodes.now c.requires.trie c.args.at.0 c.requires.here c.args.after false
          (sym w.in_default.ensures)
    ] in
    IfNone_then c.first_later-2.result c.first_later-2.ensures.none
    (λ none. none_later c.args.nodes.now c.requires.trie c.args.at.0 c.requires.here c.args.after
    (λ later. false≢true (sym c.if-is_later.false ∙ c.is_later.ensures.1 later)) low
    (none_in_child c.args.nodes.now c.requires.trie c.args.at.0 c.requires.here c.args.after true
    c.in_ok-child_below.field-0 (sym c.child_below-2.ensures ∙ c.in_ok-child_below.was) none))
