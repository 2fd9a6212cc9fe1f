-- No public contract cites this file. The words of an update: all but the path are tested, and path and communities are
-- not made.
use Rattle.std.specs.Prelude.{◌≡◌, ℕ, ◌<◌, ◌≤◌, ◌^◌, List, ◌∷◌, codes, IfSome, length}
use Rattle.net_prefix.specs.Prefix.{prefix_text}
use Rattle.sim_event.specs.declared.event.FedRoute.{FedRoute}
use Rattle.sim_event.specs.Events.{IsPrefix, IsFedRoute}
use Rattle.sim_event.specs.Wording.{origin_text, maybe_number_text}
use Rattle.command_text.specs.declared.feed.NewsKind.{NewsKind}
use Rattle.command_text.specs.declared.feed.NewsKind.TheVariants.{Update, Withdraw}
use Rattle.command_text.specs.declared.feed.UpdateWords.{UpdateWords}
use Rattle.command_text.specs.Words.{fed_words}
use Rattle.command_text.specs.Lines.{tokens, most_command_bytes}
use Rattle.command_text.specs.CommunityWords.{HasCommunities}

-- the word of a kind of news
abbrev pub kind_word : NewsKind → List ℕ
kind_word Update = codes "update"
kind_word Withdraw = codes "withdraw"

abbrev pub update_words : UpdateWords → List (List ℕ)
update_words u = prefix_text u.prefix ∷ u.path.now ∷ origin_text u.origin ∷ maybe_number_text u.med
    ∷ tokens u.communities.now

-- they spell a route, where the word of the path spells one
abbrev pub AreUpdateWords : UpdateWords → Type 0
AreUpdateWords u =
    IsPrefix u.prefix × (length u.path.now ≤ most_command_bytes) × IfSome u.med (λ m. m < 2 ^ 32)
    × HasCommunities (tokens u.communities.now)

-- some route is spelled so
abbrev pub HasRoute : List (List ℕ) → Type 0
HasRoute words = (r : FedRoute) × IsFedRoute r × (words ≡ fed_words r)
