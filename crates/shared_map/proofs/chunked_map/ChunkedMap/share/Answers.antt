-- Where there is a chunk, there is an entry.
use Rattle.std.proofs.Common.{◌≡◌, ◌∙◌, ◌==◌, ◌<◌, [], false, length, Some, Ok, Err, OnErr, ap, sym, subst}
use Rattle.seq.specs.Shown.{items_shown}
use Rattle.shared_map.specs.EntryChunks.{entries_in}
use Rattle.shared_map.proofs.EntryPlaces.{some_entry}
use Rattle.shared_map.proofs.chunked_map.ChunkedMap.share.Goals as goal

pub returns-in_err-try_clone-in-Some-clause-some : goal.returns-in_err-try_clone-in-Some-clause-some
returns-in_err-try_clone-in-Some-clause-some g c =
    let cs = items_shown c.self.inside.chunks in
    let here : (length (items_shown (Some c.in-Some.chunks)) == 0) ≡ false =
    cc (c.is_empty.ensures, c.if-not-is_empty.true, c.deref.ensures) in
    let some : (length cs == 0) ≡ false = ap (λ o. length (items_shown o) == 0) c.in-Some.is ∙ here in
    let more : 0 < length c.args.self.now =
    subst (λ es. 0 < length es) c.self.view_is (some_entry cs c.self.invariant.0 some) in
    elim c.from_residual.result as (λ r. OnErr r (0 < length c.args.self.now)) [
      | Ok other ↦ tt
      | Err e ↦ more
    ]
