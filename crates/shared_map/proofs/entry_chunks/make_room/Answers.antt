-- A chunk in two holds what it held.
use Rattle.std.proofs.Common.{◌≡◌, ◌∙◌, suc, Some, ap, sym, set, add-one}
use Rattle.std.specs.List.{insert}
use Rattle.std.proofs.lemmas.Option.{slice_get-get_or}
use Rattle.shared_map.specs.EntryChunks.{entries_in}
use Rattle.shared_map.proofs.EntryPlaces.{halved, halved_are}
use Rattle.shared_map.proofs.entry_chunks.make_room.Goals as goal

pub returns-clause-entries : goal.returns-clause-entries
returns-clause-entries g c =
    let cs = c.args.chunks.now.items in
    let at = c.place_of-at.result in
    let es = c.index-chunk.result.now in
    let front = c.in_ok-front.field-0.front in
    let back = c.in_ok-front.field-0.back in
    let place = rw c.deref.ensures.value at c.place_of-at.ensures in
    let got = slice_get-get_or cs at es place.in_range ∙ ap Some (sym c.index-chunk.ensures) in
    let same : c.insert.new.self.items ≡ insert cs (suc at) back = c.in_ok-insert.ensures.items
    ∙ ap (λ n. insert cs n back) (add-one at) in
    ap (λ xs. entries_in (set xs at front)) same ∙ halved cs at es front back got c.in_ok-front.ensures.whole

pub returns-clause-chunks : goal.returns-clause-chunks
returns-clause-chunks g c =
    let cs = c.args.chunks.now.items in
    let at = c.place_of-at.result in
    let es = c.index-chunk.result.now in
    let front = c.in_ok-front.field-0.front in
    let back = c.in_ok-front.field-0.back in
    let place = rw c.deref.ensures.value at c.place_of-at.ensures in
    let got = slice_get-get_or cs at es place.in_range ∙ ap Some (sym c.index-chunk.ensures) in
    let same : c.insert.new.self.items ≡ insert cs (suc at) back = c.in_ok-insert.ensures.items
    ∙ ap (λ n. insert cs n back) (add-one at) in
    halved_are g.K.Ord.cmp g.met.K.Ord.total cs c.requires.chunks at es front back
    (set c.insert.new.self.items at front) got place.in_range c.in_ok-front.ensures.whole
    c.in_ok-front.ensures.front c.in_ok-front.ensures.back (ap (λ xs. set xs at front) same)
