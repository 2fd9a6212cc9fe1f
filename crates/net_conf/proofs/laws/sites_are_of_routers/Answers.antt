use Rattle.net_conf.proofs.RouterLaws.{me_of_site, site_sessions_in_order, session_of_site, up_by_site}
use Rattle.net_conf.proofs.laws.sites_are_of_routers.Goals as goal

pub returns-clause-address : goal.returns-clause-address
returns-clause-address c = me_of_site

pub returns-clause-in_order : goal.returns-clause-in_order
returns-clause-in_order c = site_sessions_in_order

pub returns-clause-sessions : goal.returns-clause-sessions
returns-clause-sessions c = session_of_site

pub returns-clause-up : goal.returns-clause-up
returns-clause-up c = up_by_site
