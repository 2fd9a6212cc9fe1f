-- Which events there are: the ranges of the values that an event holds.
use Rattle.std.specs.Prelude.{ℕ, ◌<◌, ◌^◌, List, [], ◌∷◌, IfSome, All}
use Rattle.net_prefix.specs.declared.addr.Addr.{Addr}
use Rattle.net_prefix.specs.Prefix.{Prefix, MakePrefix}
use Rattle.path_attr.specs.declared.path.Segment.{Segment}
use Rattle.path_attr.specs.Path.{IsPath, IsAscending, numbers_of}
use Rattle.igp_cost.specs.Metric.{IsMetric}
use Rattle.route_policy.specs.Repeats.{IsRepeat}
use Rattle.route_policy.specs.declared.rule.Match.{Match}
use Rattle.route_policy.specs.declared.rule.Match.TheVariants.{Any, Is, Under, Path, First, Comm}
use Rattle.route_policy.specs.declared.rule.Settings.{Settings}
use Rattle.route_policy.specs.declared.rule.Action.{Action}
use Rattle.route_policy.specs.declared.rule.Action.TheVariants.{Deny, Permit}
use Rattle.net_conf.specs.declared.edit.Edit.{Edit}
use Rattle.net_conf.specs.declared.edit.Edit.TheVariants.{Router, Virtual, Link, Metric, Fail, Mend, Join, Stop, Start, Client, OwnNext, Cluster, MedAlways, Rule as AddRule, Clear, Origin, NoOrigin}
use Rattle.sim_event.specs.declared.event.Event.{Event}
use Rattle.sim_event.specs.declared.event.Event.TheVariants.{Edit as AnEdit, Feed as AFeed, Deliver, Ask as AnAsk}
use Rattle.sim_event.specs.declared.event.FedRoute.{FedRoute}
use Rattle.sim_event.specs.declared.event.News.{News}
use Rattle.sim_event.specs.declared.event.News.TheVariants.{Update, Withdraw}
use Rattle.sim_event.specs.declared.event.Ask.{Ask}
use Rattle.sim_event.specs.declared.event.Ask.TheVariants.{Routes, Best, Why, In, Out, Queue, Quiet, Cost, Trace}

abbrev pub IsAddress : Addr → Type 0
IsAddress a = a.0 < 2 ^ 32

-- an AS number is 1 to 2^32 - 1 (RFC 6793; RFC 7607 for 0)
abbrev pub IsAsNumber : ℕ → Type 0
IsAsNumber n = (0 < n) × (n < 2 ^ 32)

abbrev pub IsPrefix : Prefix → Type 0
IsPrefix p = IsAddress p.addr × MakePrefix p.addr p.len

abbrev pub HasAsNumbers : List Segment → Type 0
HasAsNumbers [] = Unit {0}
HasAsNumbers (s ∷ ss) = All IsAsNumber (numbers_of s) × HasAsNumbers ss

abbrev pub IsMatch : Match → Type 0
IsMatch Any = Unit {0}
IsMatch (Is p) = IsPrefix p
IsMatch (Under p) = IsPrefix p
IsMatch (Path n) = IsAsNumber n
IsMatch (First n) = IsAsNumber n
IsMatch (Comm n) = n < 2 ^ 32

abbrev pub AreSettings : Settings → Type 0
AreSettings s = IfSome s.pref (λ n. n < 2 ^ 32) × IfSome s.med (λ n. n < 2 ^ 32) × IfSome s.prepend IsRepeat
    × IfSome s.add (λ n. n < 2 ^ 32)

abbrev pub IsAction : Action → Type 0
IsAction Deny = Unit {0}
IsAction (Permit s) = AreSettings s

abbrev pub IsEdit : Edit → Type 0
IsEdit (Router a n) = IsAddress a × IsAsNumber n
IsEdit (Virtual a n) = IsAddress a × IsAsNumber n
IsEdit (Link a b m) = IsAddress a × IsAddress b × IsMetric m
IsEdit (Metric a b m) = IsAddress a × IsAddress b × IsMetric m
IsEdit (Fail a b) = IsAddress a × IsAddress b
IsEdit (Mend a b) = IsAddress a × IsAddress b
IsEdit (Join a b) = IsAddress a × IsAddress b
IsEdit (Stop a b) = IsAddress a × IsAddress b
IsEdit (Start a b) = IsAddress a × IsAddress b
IsEdit (Client a b on) = IsAddress a × IsAddress b
IsEdit (OwnNext a b on) = IsAddress a × IsAddress b
IsEdit (Cluster a id) = IsAddress a × IsAddress id
IsEdit (MedAlways a always) = IsAddress a
IsEdit (AddRule a b side rule) = IsAddress a × IsAddress b × IsMatch rule.cond × IsAction rule.act
IsEdit (Clear a b side) = IsAddress a × IsAddress b
IsEdit (Origin a p) = IsAddress a × IsPrefix p
IsEdit (NoOrigin a p) = IsAddress a × IsPrefix p

-- numbers of 32 bits (RFC 1997), in strictly ascending order (own)
abbrev pub AreCommunities : List ℕ → Type 0
AreCommunities cs = IsAscending cs × All (λ n. n < 2 ^ 32) cs

abbrev pub IsFedRoute : FedRoute → Type 0
IsFedRoute r = IsPrefix r.prefix × IsPath r.path × HasAsNumbers r.path × IfSome r.med (λ m. m < 2 ^ 32)
    × AreCommunities r.comms

abbrev pub IsNews : News → Type 0
IsNews (Update r) = IsFedRoute r
IsNews (Withdraw p) = IsPrefix p

abbrev pub IsAsk : Ask → Type 0
IsAsk (Routes r) = IsAddress r
IsAsk (Best r p) = IsAddress r × IsPrefix p
IsAsk (Why r p) = IsAddress r × IsPrefix p
IsAsk (In a b) = IsAddress a × IsAddress b
IsAsk (Out a b) = IsAddress a × IsAddress b
IsAsk (Queue a b) = IsAddress a × IsAddress b
IsAsk Quiet = Unit {0}
IsAsk (Cost r x) = IsAddress r × IsAddress x
IsAsk (Trace r d) = IsAddress r × IsAddress d

-- the values are in their ranges
abbrev pub IsEvent : Event → Type 0
IsEvent (AnEdit e) = IsEdit e
IsEvent (AFeed f) = IsAddress f.from × IsAddress f.to × IsNews f.news
IsEvent (Deliver a b) = IsAddress a × IsAddress b
IsEvent (AnAsk q) = IsAsk q
