-- The node is the deepest where none further on has a value.
use Rattle.std.proofs.Common.{sym, ◌∙◌}
use Rattle.prefix_table.proofs.Paths.{NoneIsDeeper, deeper_found, none_deeper, none_deeper_last, deepest_here, none_here}
use Rattle.prefix_table.proofs.descent.+deepest.Goals.{in-Some+in_default-deepest, in_default}
use Rattle.prefix_table.proofs.descent.+deepest.Goals as goal

pub returns-in-Some-deepest-clause-found : goal.returns-in-Some-deepest-clause-found
returns-in-Some-deepest-clause-found t c =
    deeper_found c.args.nodes.now c.requires.trie c.args.at.0 c.requires.here c.args.prefix c.requires.covers
    c.in-Some.next.0 c.in-Some-deepest.found.0 c.in-Some.ensures.found c.in-Some-deepest.ensures.found

pub returns-then-has_value-clause-found : goal.returns-then-has_value-clause-found
returns-then-has_value-clause-found t c =
    let none : NoneIsDeeper c.args.nodes.now c.requires.trie c.args.at.0 c.requires.here c.args.prefix
    c.requires.covers = elim c.match-nearer.branch [
      | in-Some+in_default-deepest w ↦
          none_deeper c.args.nodes.now c.requires.trie c.args.at.0 c.requires.here c.args.prefix c.requires.covers
          w.in-Some.next.0 w.in-Some.ensures.found w.in_default-deepest.ensures.none
      | in_default w ↦ none_deeper_last c.args.nodes.now c.requires.trie c.args.at.0 c.requires.here c.args.prefix
          c.requires.covers w.in_default.ensures.none
    ] in
    deepest_here c.args.nodes.now c.requires.trie c.args.at.0 c.requires.here c.args.prefix c.requires.covers
    (sym c.has_value.ensures ∙ c.if-has_value.true) none

pub returns-else-has_value-clause-none : goal.returns-else-has_value-clause-none
returns-else-has_value-clause-none t c =
    let none : NoneIsDeeper c.args.nodes.now c.requires.trie c.args.at.0 c.requires.here c.args.prefix
    c.requires.covers = elim c.match-nearer.branch [
      | in-Some+in_default-deepest w ↦
          none_deeper c.args.nodes.now c.requires.trie c.args.at.0 c.requires.here c.args.prefix c.requires.covers
          w.in-Some.next.0 w.in-Some.ensures.found w.in_default-deepest.ensures.none
      | in_default w ↦ none_deeper_last c.args.nodes.now c.requires.trie c.args.at.0 c.requires.here c.args.prefix
          c.requires.covers w.in_default.ensures.none
    ] in
    none_here c.args.nodes.now c.requires.trie c.args.at.0 c.requires.here c.args.prefix c.requires.covers
    (sym c.has_value.ensures ∙ c.if-has_value.false) none
