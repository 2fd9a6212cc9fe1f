-- No public contract cites this file. Which words spell communities.
use Rattle.std.specs.Prelude.{◌≡◌, ℕ, List}
use Rattle.sim_event.specs.Events.{AreCommunities}
use Rattle.command_text.specs.Words.{communities_words}

abbrev pub HasCommunities : List (List ℕ) → Type 0
HasCommunities words = (cs : List ℕ) × AreCommunities cs × (words ≡ communities_words cs)
