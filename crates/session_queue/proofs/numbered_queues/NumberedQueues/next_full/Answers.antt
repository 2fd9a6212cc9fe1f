use Rattle.std.proofs.Common.{◌≡◌, rules, ap, ◌∙◌}
use Rattle.std.specs.Option.{option_map}
use Rattle.std.specs.List.{find}
use Rattle.std.specs.BTreeMap.Range.{entries_between}
use Rattle.std.specs.declared.ops.Bound.TheVariants.{Unbounded}
use Rattle.session_queue.specs.Lines.{direction_cmp}
use Rattle.session_queue.specs.Tidy.{has_message}
use Rattle.session_queue.proofs.Walk.{found_full, found_past, found_first, pair_of}
use Rattle.session_queue.proofs.numbered_queues.NumberedQueues.next_full.Goals as goal

pub returns : goal.returns
returns c =
    let q = c.args.self.now in
    let pairs : c.map.result ≡ option_map pair_of c.first_full.result = search rules in
    let start = ap (λ s. option_map pair_of
    (option_map (λ e. e.0) (find (λ e. has_message e.1) (entries_between direction_cmp s Unbounded q))))
    c.start_past.ensures in
    let is = pairs ∙ ap (option_map pair_of) c.first_full.ensures.first ∙ start in
    let ordered = c.first_full.ensures.ordered in
    record {
      full = found_full q c.args.past ordered c.map.result is;
      past = found_past q c.args.past ordered c.map.result is;
      none_between = found_first q c.args.past ordered c.map.result is;
    }
