use Rattle.std.proofs.Common.{◌≡◌, sym, subst}
use Rattle.std.specs.Option.{SomeIff}
use Rattle.path_attr.specs.Path.{IsAscending}
use Rattle.sim_event.specs.Events.{AreCommunities}
use Rattle.command_text.specs.Words.{communities_words}
use Rattle.command_text.specs.Lines.{tokens}
use Rattle.command_text.specs.Ascending.{AreFrom}
use Rattle.command_text.proofs.Numbers.{ascending_numbers, ascending_of}
use Rattle.command_text.proofs.CommunityWords.{named_ascending, communities_of, none_of, unnamed_none}
use Rattle.command_text.proofs.Readings.{some_if}
use Rattle.command_text.proofs.communities.build_communities.Goals as goal

pub returns-in_default : goal.returns-in_default
returns-in_default c =
    subst (λ cs. AreCommunities cs × (tokens c.args.words.now ≡ communities_words cs)) (sym c.none.ensures)
    (none_of _ (unnamed_none _ c.in_default.ensures.none c.requires))

pub build_numbers-requires : goal.build_numbers-requires
build_numbers-requires c = ascending_numbers 0 _ (named_ascending _ _ c.in-Some.ensures.found c.requires)

pub unwrap-requires : goal.unwrap-requires
unwrap-requires c =
    let are = subst (λ ns. AreFrom 0 ns c.in-Some.text.now) (sym c.in_ok-shared.ensures) c.in_ok-numbers.ensures in
    some_if _ _ _ c.new.ensures (ascending_of 0 _ _ are (named_ascending _ _ c.in-Some.ensures.found c.requires))

pub returns : goal.returns
returns c =
    let shared = c.in_ok-shared.shared in
    let are = subst (λ ns. AreFrom 0 ns c.in-Some.text.now) (sym c.in_ok-shared.ensures) c.in_ok-numbers.ensures in
    let up = ascending_of 0 shared _ are (named_ascending _ _ c.in-Some.ensures.found c.requires) in
    let is = subst (λ r. SomeIff r (IsAscending shared) shared) c.unwrap.ensures c.new.ensures in
    subst (λ cs. AreCommunities cs × (tokens c.args.words.now ≡ communities_words cs)) (sym is.1)
    (communities_of _ _ shared c.in-Some.ensures.found are up)
