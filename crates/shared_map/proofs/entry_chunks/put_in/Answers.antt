-- The chunks stay in order.
use Rattle.std.proofs.Common.{◌≡◌, ◌∙◌, Some, Ok, Err, OnOk, OnErr, set, ap, sym, subst}
use Rattle.std.specs.BTreeMap.{insert_entry}
use Rattle.std.proofs.lemmas.Option.{slice_get-get_or}
use Rattle.shared_map.specs.EntryChunks.{AreEntryChunks}
use Rattle.shared_map.proofs.EntryPlaces.{put_are, set_same}
use Rattle.shared_map.proofs.entry_chunks.put_in.Goals as goal

pub returns-clause-chunks : goal.returns-clause-chunks
returns-clause-chunks g c =
    let cmp = g.K.Ord.cmp in
    let cs = c.make_room.new.chunks.items in
    let at = c.place_of-at.result in
    let es = c.index_mut-chunk.result.now in
    let place = rw c.deref.ensures.value at c.place_of-at.ensures in
    let got = slice_get-get_or cs at es place.in_range ∙ ap Some (sym c.index_mut-chunk.ensures.value) in
    elim c.put-2.result as (λ r. OnOk r (c.put-2.new.self ≡ insert_entry cmp es c.args.key c.args.value) →
    OnErr r (c.put-2.new.self ≡ es) → AreEntryChunks cmp (set cs at c.put-2.new.self)) [
      | Ok u ↦ λ ok err. put_are cmp g.met.K.Ord.total cs c.make_room.ensures.chunks c.args.key c.args.value at es
          _ place got (ap (set cs at) ok)
      | Err e ↦ λ ok err. subst (AreEntryChunks cmp) (sym (ap (set cs at) err ∙ set_same cs at es got))
          c.make_room.ensures.chunks
    ] c.put-2.ensures.ok c.put-2.ensures.err
