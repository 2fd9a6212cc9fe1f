use Rattle.std.proofs.Common.{ap, set, ◌∙◌}
use Rattle.prefix_table.proofs.Contents.{set_placed}
use Rattle.prefix_table.proofs.growth.set_place.Goals as goal

pub returns : goal.returns
returns c =
    ap (λ place. set c.args.nodes.now.items c.args.at.0 (record {
      prefix = c.index_mut-node.result.now.prefix;
      low = c.index_mut-node.result.now.low;
      high = c.index_mut-node.result.now.high;
      place = place;
    }))
    c.new-node.ensures
    ∙ set_placed c.args.nodes.now.items c.args.at.0 c.args.place c.index_mut-node.result.now c.requires.here
    c.index_mut-node.ensures.value
