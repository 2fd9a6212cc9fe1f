-- The command language (own), apart from any reader: each event is spelled by one list of words.
use Rattle.std.specs.Prelude.{ℕ, Bool, true, false, List, [], ◌∷◌, ◌++◌, codes, Option, Some, None}
use Rattle.std.specs.Fmt.{decimal}
use Rattle.net_prefix.specs.Address.{addr_text}
use Rattle.net_prefix.specs.Prefix.{prefix_text}
use Rattle.route_policy.specs.declared.rule.Match.{Match}
use Rattle.route_policy.specs.declared.rule.Match.TheVariants.{Any, Is, Under, Path, First, Comm}
use Rattle.route_policy.specs.declared.rule.Settings.{Settings}
use Rattle.route_policy.specs.declared.rule.Action.{Action}
use Rattle.route_policy.specs.declared.rule.Action.TheVariants.{Deny, Permit}
use Rattle.net_conf.specs.declared.tables.PolicySide.{PolicySide}
use Rattle.net_conf.specs.declared.tables.PolicySide.TheVariants.{Import, Export}
use Rattle.net_conf.specs.declared.edit.Edit.{Edit}
use Rattle.net_conf.specs.declared.edit.Edit.TheVariants.{Router, Virtual, Link, Metric, Fail, Mend, Join, Stop, Start, Client, OwnNext, Cluster, MedAlways, Rule as AddRule, Clear, Origin, NoOrigin}
use Rattle.sim_event.specs.declared.event.Event.{Event}
use Rattle.sim_event.specs.declared.event.Event.TheVariants.{Edit as AnEdit, Feed as AFeed, Deliver, Ask as AnAsk}
use Rattle.sim_event.specs.declared.event.FedRoute.{FedRoute}
use Rattle.sim_event.specs.declared.event.News.{News}
use Rattle.sim_event.specs.declared.event.News.TheVariants.{Update, Withdraw}
use Rattle.sim_event.specs.declared.event.Ask.{Ask}
use Rattle.sim_event.specs.declared.event.Ask.TheVariants.{Routes, Best, Why, In, Out, Queue, Quiet, Cost, Trace}
use Rattle.sim_event.specs.Wording.{numbers_text, maybe_number_text, origin_text, path_text}

abbrev pub switch_word : Bool → List ℕ
switch_word true = codes "on"
switch_word false = codes "off"

-- how a router compares MULTI_EXIT_DISC: always, or among the routes of one neighbouring AS
abbrev pub comparison_word : Bool → List ℕ
comparison_word true = codes "always"
comparison_word false = codes "as"

abbrev pub side_word : PolicySide → List ℕ
side_word Import = codes "in"
side_word Export = codes "out"

abbrev pub match_words : Match → List (List ℕ)
match_words Any = codes "any" ∷ []
match_words (Is p) = codes "is" ∷ prefix_text p ∷ []
match_words (Under p) = codes "under" ∷ prefix_text p ∷ []
match_words (Path n) = codes "path" ∷ decimal n ∷ []
match_words (First n) = codes "first" ∷ decimal n ∷ []
match_words (Comm n) = codes "comm" ∷ decimal n ∷ []

-- a setting by its name, where it is made
abbrev pub setting_words : List ℕ → Option ℕ → List (List ℕ)
setting_words name None = []
setting_words name (Some n) = (name ++ decimal n) ∷ []

-- the settings, in this order
abbrev pub settings_words : Settings → List (List ℕ)
settings_words s =
    setting_words (codes "pref=") s.pref ++ setting_words (codes "med=") s.med
    ++ setting_words (codes "prepend=") s.prepend ++ setting_words (codes "add=") s.add

abbrev pub action_words : Action → List (List ℕ)
action_words Deny = codes "deny" ∷ []
action_words (Permit s) = codes "permit" ∷ settings_words s

abbrev pub edit_words : Edit → List (List ℕ)
edit_words (Router a n) = codes "router" ∷ addr_text a ∷ decimal n ∷ []
edit_words (Virtual a n) = codes "virtual" ∷ addr_text a ∷ decimal n ∷ []
edit_words (Link a b m) = codes "link" ∷ addr_text a ∷ addr_text b ∷ decimal m ∷ []
edit_words (Metric a b m) = codes "metric" ∷ addr_text a ∷ addr_text b ∷ decimal m ∷ []
edit_words (Fail a b) = codes "fail" ∷ addr_text a ∷ addr_text b ∷ []
edit_words (Mend a b) = codes "mend" ∷ addr_text a ∷ addr_text b ∷ []
edit_words (Join a b) = codes "join" ∷ addr_text a ∷ addr_text b ∷ []
edit_words (Stop a b) = codes "stop" ∷ addr_text a ∷ addr_text b ∷ []
edit_words (Start a b) = codes "start" ∷ addr_text a ∷ addr_text b ∷ []
edit_words (Client a b on) = codes "client" ∷ addr_text a ∷ addr_text b ∷ switch_word on ∷ []
edit_words (OwnNext a b on) = codes "self" ∷ addr_text a ∷ addr_text b ∷ switch_word on ∷ []
edit_words (Cluster a id) = codes "cluster" ∷ addr_text a ∷ addr_text id ∷ []
edit_words (MedAlways a always) = codes "med" ∷ addr_text a ∷ comparison_word always ∷ []
edit_words (AddRule a b side rule) = codes "rule" ∷ addr_text a ∷ addr_text b ∷ side_word side ∷ match_words rule.cond
    ++ action_words rule.act
edit_words (Clear a b side) = codes "clear" ∷ addr_text a ∷ addr_text b ∷ side_word side ∷ []
edit_words (Origin a p) = codes "origin" ∷ addr_text a ∷ prefix_text p ∷ []
edit_words (NoOrigin a p) = codes "noorigin" ∷ addr_text a ∷ prefix_text p ∷ []

-- the communities, where there are some
abbrev pub communities_words : List ℕ → List (List ℕ)
communities_words [] = []
communities_words (c ∷ cs) = (codes "comm=" ++ numbers_text (c ∷ cs)) ∷ []

abbrev pub fed_words : FedRoute → List (List ℕ)
fed_words r = prefix_text r.prefix ∷ path_text r.path ∷ origin_text r.origin ∷ maybe_number_text r.med
    ∷ communities_words r.comms

abbrev pub news_words : News → List (List ℕ)
news_words (Update r) = codes "update" ∷ fed_words r
news_words (Withdraw p) = codes "withdraw" ∷ prefix_text p ∷ []

abbrev pub ask_words : Ask → List (List ℕ)
ask_words (Routes r) = codes "routes" ∷ addr_text r ∷ []
ask_words (Best r p) = codes "best" ∷ addr_text r ∷ prefix_text p ∷ []
ask_words (Why r p) = codes "why" ∷ addr_text r ∷ prefix_text p ∷ []
ask_words (In r x) = codes "in" ∷ addr_text r ∷ addr_text x ∷ []
ask_words (Out r x) = codes "out" ∷ addr_text r ∷ addr_text x ∷ []
ask_words (Queue a b) = codes "queue" ∷ addr_text a ∷ addr_text b ∷ []
ask_words Quiet = codes "quiet" ∷ []
ask_words (Cost r x) = codes "cost" ∷ addr_text r ∷ addr_text x ∷ []
ask_words (Trace r d) = codes "trace" ∷ addr_text r ∷ addr_text d ∷ []

-- the words that spell the event
abbrev pub words_of : Event → List (List ℕ)
words_of (AnEdit e) = edit_words e
words_of (AFeed f) = codes "feed" ∷ addr_text f.from ∷ addr_text f.to ∷ news_words f.news
words_of (Deliver a b) = codes "deliver" ∷ addr_text a ∷ addr_text b ∷ []
words_of (AnAsk q) = ask_words q
