use Rattle.std.proofs.Common.{◌∙◌}
use Rattle.net_conf.specs.MovedTrees.{tree_after}
use Rattle.net_conf.proofs.Pieces.{made_in_pieces}
use Rattle.net_conf.proofs.kept.moved_trees.+pieces.Goals as goal

pub returns : goal.returns
returns g t c =
    c.in_ok-append.ensures.items
    ∙ made_in_pieces tree_after _ c.args.moved.now _ _ _ _ c.in_ok-trees.trees c.in_ok-rest.rest c.in_ok-trees.was
    c.in_ok-rest.was c.split_at.ensures.front c.split_at.ensures.back c.join-made.ensures.first
    c.join-made.ensures.second
