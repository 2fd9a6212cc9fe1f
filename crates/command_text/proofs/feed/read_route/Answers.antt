use Rattle.std.proofs.Common.{◌≡◌, ℕ, List, ◌∷◌}
use Rattle.net_prefix.specs.Prefix.{Prefix, prefix_text}
use Rattle.path_attr.specs.declared.path.Segment.{Segment}
use Rattle.sim_event.specs.declared.event.FedRoute.{FedRoute}
use Rattle.sim_event.specs.Wording.{origin_text, maybe_number_text, path_text}
use Rattle.command_text.specs.Words.{communities_words, fed_words}
use Rattle.command_text.proofs.Readings.{at_none, at_some}
use Rattle.command_text.proofs.feed.read_route.Goals as goal

-- the words from the path on, and from ORIGIN on
from_path : (words rest : List (List ℕ)) (p : Prefix) (r : FedRoute) → words ≡ prefix_text p ∷ rest →
    words ≡ fed_words r → rest ≡ path_text r.path ∷ origin_text r.origin ∷ maybe_number_text r.med
    ∷ communities_words r.comms
from_path words rest p r found s = cc

from_origin : (words rest after : List (List ℕ)) (p : Prefix) (q : List Segment) (r : FedRoute) →
    words ≡ prefix_text p ∷ rest → rest ≡ path_text q ∷ after → words ≡ fed_words r →
    after ≡ origin_text r.origin ∷ maybe_number_text r.med ∷ communities_words r.comms
from_origin words rest after p q r found next s = cc

pub returns-in_default-2 : goal.returns-in_default-2
returns-in_default-2 c r h s =
    let none = at_none _ _ c.in_default-2.is c.in_ok-path.ensures.none in
    none r.path (origin_text r.origin ∷ maybe_number_text r.med ∷ communities_words r.comms) (
      h.1,
      h.2,
    ) (from_path _ _ _ r c.in-Some.ensures.found s)

pub returns-in_default-next_origin_and_med : goal.returns-in_default-next_origin_and_med
returns-in_default-next_origin_and_med c r h s =
    let found = at_some _ _ _ c.in-Some-2.is c.in_ok-path.ensures.found in
    c.in_default-next_origin_and_med.ensures.none r.origin r.med (communities_words r.comms) h.3
    (from_origin _ _ _ _ _ r c.in-Some.ensures.found found.1 s)
