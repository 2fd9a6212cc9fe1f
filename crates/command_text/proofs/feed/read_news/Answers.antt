use Rattle.std.proofs.Common.{◌≡◌, List, ◌∷◌, ℕ, ◌∙◌}
use Rattle.sim_event.specs.declared.event.News.{News}
use Rattle.sim_event.specs.declared.event.News.TheVariants.{Update, Withdraw}
use Rattle.net_prefix.specs.Prefix.{prefix_text}
use Rattle.sim_event.specs.Events.{IsNews}
use Rattle.command_text.specs.declared.feed.NewsKind.{NewsKind}
use Rattle.command_text.specs.declared.feed.NewsKind.TheVariants as kind
use Rattle.command_text.specs.Words.{fed_words, news_words}
use Rattle.command_text.specs.Lines.{is_route}
use Rattle.command_text.specs.Updates.{kind_word}
use Rattle.command_text.proofs.Readings.{at_none, refused_so}
use Rattle.command_text.proofs.feed.read_news.Goals as goal

-- news begins with the word of a kind
news_kind : (n : News) → (k : NewsKind) × (more : List (List ℕ)) × (news_words n ≡ kind_word k ∷ more)
news_kind (Update r) = (kind.Update, fed_words r, λ i. news_words (Update r))
news_kind (Withdraw p) = (kind.Withdraw, prefix_text p ∷ _, λ i. news_words (Withdraw p))

pub returns-in_err-kind : goal.returns-in_err-kind
returns-in_err-kind c =
    let none = at_none _ _ c.in_err-kind.ensures.ok_part c.next_kind.ensures.none in
    refused_so IsNews is_route news_words _ _ _ _ c.in_err-kind.ensures.ok_part c.in_err-kind.ensures.value
    c.from_residual.ensures.1
    (λ n h s. let first = news_kind n in none first.0 first.1 (s ∙ first.2))
