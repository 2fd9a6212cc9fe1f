-- The chunk of an entry alone is left out; else the entry is taken out of its chunk.
use Rattle.std.proofs.Common.{◌≡◌, ◌∙◌, ◌<◌, ◌≤◌, [], true, false, length, Some, set, ap, sym, subst, arith}
use Rattle.std.specs.Prelude.{is_some}
use Rattle.std.specs.Map.{lookup, remove_entry}
use Rattle.std.specs.BTreeMap.{is_at}
use Rattle.std.proofs.lemmas.Option.{slice_get-get_or, same_Some}
use Rattle.shared_map.specs.EntryChunks.{entries_in}
use Rattle.shared_map.proofs.EntryPlaces.{taken_are, removed_are, removed_entries, alone_left}
use Rattle.shared_map.proofs.InOrder.{entries_absent}
use Rattle.shared_map.proofs.entry_chunks.take_from.Goals as goal

pub returns-then-len-gt1-clause-chunks : goal.returns-then-len-gt1-clause-chunks
returns-then-len-gt1-clause-chunks g c =
    let cs = c.args.chunks.now.items in
    let at = c.place_of-at.result in
    let es = c.index_mut-chunk.result.now in
    let first = c.index.result.now in
    let place = rw c.deref.ensures.value at c.place_of-at.ensures in
    let got = slice_get-get_or cs at es place.in_range ∙ ap Some (sym c.index_mut-chunk.ensures.value) in
    let same : es ≡ first = same_Some es first (sym got ∙ slice_get-get_or cs at first place.in_range
    ∙ ap Some (sym c.index.ensures)) in
    let many : 1 < length es = subst (λ x. 1 < length x) (sym same) (omega (arith, c.len.ensures)) in
    taken_are g.K.Ord.cmp g.met.K.Ord.total cs c.requires c.args.key.now at es (set cs at c.take_out.new.self) place got
    many (ap (set cs at) c.in_ok-take_out.ensures.ok)

pub returns-then-contains_key-clause-ok : goal.returns-then-contains_key-clause-ok
returns-then-contains_key-clause-ok g c =
    let test = is_at (g.K.Ord.cmp c.args.key.now) in
    let cs = c.args.chunks.now.items in
    let at = c.place_of-at.result in
    let es = c.index-2.result.now in
    let first = c.index.result.now in
    let place = rw c.deref.ensures.value at c.place_of-at.ensures in
    let got = slice_get-get_or cs at es place.in_range ∙ ap Some (sym c.index-2.ensures) in
    let same : es ≡ first = same_Some es first (sym got ∙ slice_get-get_or cs at first place.in_range
    ∙ ap Some (sym c.index.ensures)) in
    let few : length es ≤ 1 = subst (λ x. length x ≤ 1) (sym same) (omega (arith, c.len.ensures)) in
    let there : is_some (lookup test es) ≡ true = sym c.contains_key.ensures ∙ c.if-contains_key.true in
    removed_entries g.K.Ord.cmp g.met.K.Ord.total cs c.requires c.args.key.now at es c.remove.new.self.items place got
    (alone_left test es few there) c.remove.ensures.items

pub returns-then-contains_key-clause-chunks : goal.returns-then-contains_key-clause-chunks
returns-then-contains_key-clause-chunks g c =
    let test = is_at (g.K.Ord.cmp c.args.key.now) in
    let cs = c.args.chunks.now.items in
    let at = c.place_of-at.result in
    let es = c.index-2.result.now in
    let first = c.index.result.now in
    let place = rw c.deref.ensures.value at c.place_of-at.ensures in
    let got = slice_get-get_or cs at es place.in_range ∙ ap Some (sym c.index-2.ensures) in
    let same : es ≡ first = same_Some es first (sym got ∙ slice_get-get_or cs at first place.in_range
    ∙ ap Some (sym c.index.ensures)) in
    let few : length es ≤ 1 = subst (λ x. length x ≤ 1) (sym same) (omega (arith, c.len.ensures)) in
    let there : is_some (lookup test es) ≡ true = sym c.contains_key.ensures ∙ c.if-contains_key.true in
    removed_are g.K.Ord.cmp g.met.K.Ord.total cs c.requires c.args.key.now at es c.remove.new.self.items place got
    (alone_left test es few there) c.remove.ensures.items

pub returns-else-contains_key-clause-ok : goal.returns-else-contains_key-clause-ok
returns-else-contains_key-clause-ok g c =
    let test = is_at (g.K.Ord.cmp c.args.key.now) in
    let cs = c.args.chunks.now.items in
    let at = c.place_of-at.result in
    let es = c.index-2.result.now in
    let place = rw c.deref.ensures.value at c.place_of-at.ensures in
    let got = slice_get-get_or cs at es place.in_range ∙ ap Some (sym c.index-2.ensures) in
    entries_absent g.K.Ord.cmp test (entries_in cs) (ap (λ o. is_some o) (sym (place.value es got))
    ∙ sym c.contains_key.ensures ∙ c.if-contains_key.false)
