-- Where there is no chunk, there is no entry.
use Rattle.std.proofs.Common.{◌≡◌, ◌∙◌, ◌==◌, [], length, ap, sym}
use Rattle.seq.specs.Shown.{items_shown}
use Rattle.shared_map.specs.EntryChunks.{entries_in}
use Rattle.shared_map.proofs.EntryPlaces.{no_chunks, none_counted}
use Rattle.shared_map.proofs.chunked_map.ChunkedMap.is_empty.Goals as goal

pub returns : goal.returns
returns g c =
    let cs = items_shown c.self.inside.chunks in (
      λ empty. sym c.self.view_is
          ∙ ap entries_in (sym c.shown.ensures ∙ none_counted c.shown.result.now (sym c.is_empty.ensures ∙ empty)),
      λ none. c.is_empty.ensures
          ∙ ap (λ x. length x == 0) (c.shown.ensures ∙ no_chunks cs c.self.invariant.0 (c.self.view_is ∙ none)),
    )
