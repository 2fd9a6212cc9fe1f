use Rattle.net_conf.proofs.OthersStay.{sites_of_others, sessions_stay, router_before, router_after, origins_alone, other_origins}
use Rattle.net_conf.proofs.laws.edits_keep_their_scope.Goals as goal

pub returns-clause-others : goal.returns-clause-others
returns-clause-others c = sites_of_others

pub returns-clause-sessions : goal.returns-clause-sessions
returns-clause-sessions c = sessions_stay

pub returns-clause-before : goal.returns-clause-before
returns-clause-before c = router_before

pub returns-clause-after : goal.returns-clause-after
returns-clause-after c = router_after

pub returns-clause-settings : goal.returns-clause-settings
returns-clause-settings c = origins_alone

pub returns-clause-origins : goal.returns-clause-origins
returns-clause-origins c = other_origins
