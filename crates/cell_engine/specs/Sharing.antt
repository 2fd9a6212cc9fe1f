-- What is seen of a configuration that a state and others hold at once.
use Rattle.std.specs.Prelude.{Option, Some, None}
use Rattle.std.specs.declared.alloc.Global.{Global}
use Rattle.std.specs.declared.sync.Arc.{Arc}
use Rattle.std.specs.Arc.{arc_value}
use Rattle.net_conf.specs.Configuration.{Configuration, unconfigured}

-- the configuration that is shared: nothing where none is
abbrev pub conf_shown : Option (Arc Configuration Global) → Configuration
conf_shown None = unconfigured
conf_shown (Some conf) = arc_value conf
