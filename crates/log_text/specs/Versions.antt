-- (own) The versions of a log's form, and which commands each has a form for.
use Rattle.std.specs.Prelude.{ℕ, Bool, true, false, not, ◌||◌, is_some, List, [], ◌∷◌, codes}
use Rattle.route_policy.specs.declared.rule.Match.{Match}
use Rattle.route_policy.specs.declared.rule.Match.TheVariants.{Any, Is, Under, Path, First, Comm}
use Rattle.route_policy.specs.declared.rule.Action.{Action}
use Rattle.route_policy.specs.declared.rule.Action.TheVariants.{Deny, Permit}
use Rattle.net_conf.specs.declared.edit.Edit.{Edit}
use Rattle.net_conf.specs.declared.edit.Edit.TheVariants.{Router, Virtual, Link, Metric, Fail, Mend, Join, Stop, Start, Client, OwnNext, Cluster, MedAlways, Rule as AddRule, Clear, Origin, NoOrigin}
use Rattle.sim_event.specs.declared.event.Event.{Event}
use Rattle.sim_event.specs.declared.event.Event.TheVariants.{Edit as AnEdit, Feed as AFeed, Deliver, Ask as AnAsk}
use Rattle.sim_event.specs.declared.event.News.{News}
use Rattle.sim_event.specs.declared.event.News.TheVariants.{Update, Withdraw}
use Rattle.log_text.specs.declared.version.Version.{Version}
use Rattle.log_text.specs.declared.version.Version.TheVariants.{One, Two}

abbrev pub matches_community : Match → Bool
matches_community Any = false
matches_community (Is p) = false
matches_community (Under p) = false
matches_community (Path n) = false
matches_community (First n) = false
matches_community (Comm n) = true

abbrev pub adds_community : Action → Bool
adds_community Deny = false
adds_community (Permit s) = is_some s.add

abbrev pub has_some : List ℕ → Bool
has_some [] = false
has_some (n ∷ ns) = true

abbrev pub tells_communities : News → Bool
tells_communities (Update r) = has_some r.comms
tells_communities (Withdraw p) = false

-- a rule that asks for a community or adds one, or how a router compares MULTI_EXIT_DISC
abbrev pub edit_needs_second : Edit → Bool
edit_needs_second (Router a n) = false
edit_needs_second (Virtual a n) = false
edit_needs_second (Link a b m) = false
edit_needs_second (Metric a b m) = false
edit_needs_second (Fail a b) = false
edit_needs_second (Mend a b) = false
edit_needs_second (Join a b) = false
edit_needs_second (Stop a b) = false
edit_needs_second (Start a b) = false
edit_needs_second (Client a b on) = false
edit_needs_second (OwnNext a b on) = false
edit_needs_second (Cluster a id) = false
edit_needs_second (MedAlways a always) = true
edit_needs_second (AddRule a b side rule) = matches_community rule.cond || adds_community rule.act
edit_needs_second (Clear a b side) = false
edit_needs_second (Origin a p) = false
edit_needs_second (NoOrigin a p) = false

-- a command that came with the second version: such an edit, or a feed with communities
abbrev pub needs_second : Event → Bool
needs_second (AnEdit e) = edit_needs_second e
needs_second (AFeed f) = tells_communities f.news
needs_second (Deliver a b) = false
needs_second (AnAsk q) = false

-- the version has a form for the command
abbrev pub has_form : Version → Event → Bool
has_form One event = not (needs_second event)
has_form Two event = true

-- the first line
abbrev pub header : Version → List ℕ
header One = codes "bgpsim log 1"
header Two = codes "bgpsim log 2"
