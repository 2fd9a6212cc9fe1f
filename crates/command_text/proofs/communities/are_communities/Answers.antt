use Rattle.command_text.proofs.CommunityWords.{named_ascending, ascending_named, none_named, unnamed_none}
use Rattle.command_text.proofs.communities.are_communities.Goals as goal

pub returns-in-Some : goal.returns-in-Some
returns-in-Some c = (
  λ e. ascending_named _ _ c.in-Some.ensures.found (c.are_ascending.ensures.0 e),
  λ has. c.are_ascending.ensures.1 (named_ascending _ _ c.in-Some.ensures.found has),
)

pub returns-in-None : goal.returns-in-None
returns-in-None c = (
  λ e. none_named _ (c.is_blank.ensures.0 e),
  λ has. c.is_blank.ensures.1 (unnamed_none _ c.in-None.ensures.none has),
)
