-- The sites of routers.
use Rattle.std.specs.Prelude.{Option, None, if◌then◌else◌}
use Rattle.net_prefix.specs.declared.addr.Addr.{Addr}
use Rattle.net_conf.specs.declared.site.SiteConf.{SiteConf}
use Rattle.net_conf.specs.Configuration.{Configuration, is_virtual, ends_session}
use Rattle.net_conf.specs.Sites.{site_of}

-- the router's own part of the configuration: none where a virtual peer stands, which decides nothing (own)
abbrev pub router_site : Configuration → Addr → Option SiteConf
router_site c r = if is_virtual c r then None else site_of c r

-- the site of a router that has a session: it is kept beside the configuration
abbrev pub site_kept : Configuration → Addr → Option SiteConf
site_kept c r = if ends_session c r then router_site c r else None

-- the site of a router that has none: it is made where it is wanted
abbrev pub site_made : Configuration → Addr → Option SiteConf
site_made c r = if ends_session c r then None else router_site c r
