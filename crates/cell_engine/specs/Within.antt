-- No public contract cites this file. What is sent where the site stays: each advert is made of the session itself,
-- which need not be looked up.
use Rattle.std.specs.Prelude.{Option, Some, None, option_map, option_and_then, if◌then◌else◌}
use Rattle.net_prefix.specs.declared.addr.Addr.{Addr}
use Rattle.net_prefix.specs.Prefix.{Prefix}
use Rattle.path_attr.specs.declared.attr.Attr.{Attr}
use Rattle.net_conf.specs.declared.site.SiteConf.{SiteConf}
use Rattle.net_conf.specs.declared.site.SiteSession.{SiteSession}
use Rattle.route_select.specs.declared.candidate.Candidate.{Candidate}
use Rattle.session_queue.specs.declared.message.Message.{Message}
use Rattle.reference_machine.specs.Advertising.{change_of}
use Rattle.reflect_out.specs.Telling.{Basis, told_over}
use Rattle.cell_engine.specs.Cells.{send_to}

-- what adverts are made of, where a route is chosen
abbrev pub basis_of : SiteConf → Prefix → Option Candidate → Option Basis
basis_of site p chosen = option_map (λ b. record { site = site; prefix = p; best = b }) chosen

-- what is advertised over the session, if anything is
abbrev pub told_by : Option Basis → SiteSession → Option Attr
told_by basis to = option_and_then (λ (x : Basis). told_over x.site x.prefix x.best to) basis

-- what is sent over the session: nothing while it is down
abbrev pub send_within : Prefix → Option Basis → Option Basis → SiteSession → Option (Addr × Message)
send_within p before after to = if to.up then send_to to.peer (change_of p (told_by before to) (told_by after to))
    else None
