use Rattle.sim_event.specs.declared.event.Event.TheVariants.{Feed as AFeed}
use Rattle.sim_event.specs.Events.{IsEvent, IsNews}
use Rattle.command_text.specs.Words.{words_of, news_words}
use Rattle.command_text.specs.Lines.{is_route, feeds_route}
use Rattle.command_text.proofs.FirstWords.{feed_follows}
use Rattle.command_text.proofs.Readings.{refused_so, handed_on, at_none, at_some}
use Rattle.command_text.proofs.feed.read_feed.Goals as goal

pub returns-in_err-to : goal.returns-in_err-to
returns-in_err-to c =
    let found = at_some _ _ _ c.in_ok-from.ensures.ok_part c.next_address.ensures.found in
    let none = at_none _ _ c.in_err-to.ensures.ok_part c.next_address-2.ensures.none in
    refused_so IsEvent feeds_route words_of _ _ _ _ c.in_err-to.ensures.ok_part c.in_err-to.ensures.value
    c.from_residual-in_err-to.ensures.1
    (λ e h s. let fed = feed_follows _ e h s in none fed.0.to (news_words fed.0.news) fed.1.1 (cc (found, fed.2)))

pub returns-in_err-news : goal.returns-in_err-news
returns-in_err-news c =
    let found = at_some _ _ _ c.in_ok-from.ensures.ok_part c.next_address.ensures.found in
    let next = at_some _ _ _ c.in_ok-to.ensures.ok_part c.next_address-2.ensures.found in
    let from = at_some _ _ _ c.in_ok-from.ensures.ok_part c.next_address.ensures.address in
    let to = at_some _ _ _ c.in_ok-to.ensures.ok_part c.next_address-2.ensures.address in
    handed_on IsEvent feeds_route words_of _ IsNews is_route news_words _ _ _ c.in_err-news.ensures
    c.from_residual-in_err-news.ensures.1
    (λ e h s. let fed = feed_follows _ e h s in (fed.0.news, fed.1.2, cc (found, next, fed.2)))
    (λ n h m s. (
      AFeed (record { from = c.in_ok-from.from; to = c.in_ok-to.to; news = n }),
      (from, to, h),
      m,
      cc (found, next, s),
    ))
