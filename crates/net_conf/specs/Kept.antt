-- What is kept beside the tables, and what holds of every configuration that edits lead to. No public contract cites
-- this file.
use Rattle.std.specs.Prelude.{◌≡◌, ◌≤◌, ℕ, Bool, true, false, not, ◌==◌, nat_lt, List, ◌∷◌, ◌++◌, length, map, filter, Option, Some, None, option_map, IsTrue, All, if◌then◌else◌}
use Rattle.std.proofs.Math.Bool.{beq}
use Rattle.std.specs.Option.{unwrap_or}
use Rattle.std.specs.List.{list_any}
use Rattle.std.specs.Map.{keys_of, values_of, lookup}
use Rattle.std.specs.Set.{remove_key}
use Rattle.std.specs.BTreeMap.{is_at}
use Rattle.std.specs.BTreeSet.{insert_key}
use Rattle.net_prefix.specs.declared.addr.Addr.{Addr}
use Rattle.net_prefix.specs.Address.{addr_cmp}
use Rattle.net_prefix.specs.Prefix.{Prefix, prefix_cmp}
use Rattle.igp_cost.specs.Metric.{IsMetric}
use Rattle.igp_cost.specs.Walks.{Nodes, Edges}
use Rattle.igp_cost.specs.Topology.{is_node}
use Rattle.igp_cost.specs.Trees.{Reached, source_of}
use Rattle.igp_cost.specs.Stays.{WasTree}
use Rattle.igp_cost.specs.Limits.{most_nodes}
use Rattle.igp_cost.specs.declared.change.Change.{Change}
use Rattle.igp_cost.specs.declared.change.Change.TheVariants.{Added, Removed, Changed}
use Rattle.net_conf.specs.declared.site.SiteConf.{SiteConf}
use Rattle.net_conf.specs.declared.site.SiteSession.{SiteSession}
use Rattle.net_conf.specs.declared.tables.End.{End}
use Rattle.net_conf.specs.declared.tables.Ends.{Ends}
use Rattle.net_conf.specs.declared.tables.Link.{Link as TheLink}
use Rattle.net_conf.specs.declared.edit.Edit.{Edit}
use Rattle.net_conf.specs.declared.edit.SiteEffect.{SiteEffect}
use Rattle.net_conf.specs.declared.edit.SiteEffect.TheVariants.{Costs, Origins, Session, NewSession, ClusterId, MedComparison, Other}
use Rattle.net_conf.specs.declared.edit.Edit.TheVariants.{Router, Virtual, Link, Metric, Fail, Mend, Join, Stop, Start, Client, OwnNext, Cluster, MedAlways, Rule, Clear, Origin, NoOrigin}
use Rattle.net_conf.specs.Configuration.{Configuration, ends_of, end_cmp, ends_session, link_between, has_link_up, session_between, is_client, is_reflector, cluster_id, compares_all_meds, puts_itself}
use Rattle.net_conf.specs.Edits.{refusal_of, edited, with_link, with_session}
use Rattle.net_conf.specs.Costs.{costs_of, is_up, down_sessions}
use Rattle.net_conf.specs.Sites.{session_of}
use Rattle.net_conf.specs.RouterSites.{router_site, site_kept}
use Rattle.net_conf.specs.Concerned.{is_among, StaysAt}
use Rattle.net_conf.specs.Configured.{AreApart, HasEnds}

pub record IsSound (c : Configuration) : Type 0 where
  pub size : length c.nodes ≤ most_nodes
  pub links : All (HasEnds c) (keys_of c.links)
  pub sessions : All (HasEnds c) (keys_of c.sessions)
  pub links_apart : All AreApart (keys_of c.links)
  pub sessions_apart : All AreApart (keys_of c.sessions)
  pub metrics : All (λ l. IsMetric l.metric) (values_of c.links)

-- THE TREES OF THE ENDS OF SESSIONS

-- the tree of the address, if it is an end of a session
abbrev pub tree_kept : Configuration → Addr → Option Reached
tree_kept c r = if ends_session c r then Some (costs_of c r) else None

-- each end of a session has its tree here, and nobody else has one
abbrev pub AreKept : Configuration → List (Addr × Reached) → Type 0
AreKept c trees = (r : Addr) → lookup (is_at (addr_cmp r)) trees ≡ tree_kept c r

-- who is not among these has the same costs as before
abbrev pub CostsStayBut : Configuration → Configuration → List Addr → Type 0
CostsStayBut c d moved = (r : Addr) → is_among r moved ≡ false → ends_session c r ≡ true → costs_of d r ≡ costs_of c r

-- the tree is that of the node from before the change
pub record WasTreeOf (change : Change) (nodes : Nodes) (edges : Edges) (r : Addr) (t : Reached) : Type 0 where
  pub source : source_of t ≡ r
  pub node : IsTrue (is_node nodes r)
  pub was : WasTree change nodes edges t

-- each tree is that of the node at its key from before the change
abbrev pub WereTrees : Change → Nodes → Edges → List (Addr × Reached) → Type 0
WereTrees change nodes edges trees = (r : Addr) (t : Reached) → lookup (is_at (addr_cmp r)) trees ≡ Some t →
    WasTreeOf change nodes edges r t

-- THE SESSIONS THAT ARE DOWN

-- these are the sessions that are down
abbrev pub AreDown : Configuration → List Ends → Type 0
AreDown c down = down ≡ down_sessions c

-- no session that is up by the one is down by the other
abbrev pub NoneGoesDown : Configuration → Configuration → Type 0
NoneGoesDown c d = (a b : Addr) → is_up c a b ≡ true → is_up d a b ≡ true

-- the sessions of who is not among these stay up or down
abbrev pub SessionsStayBut : Configuration → Configuration → List Addr → Type 0
SessionsStayBut c d rs = (r u : Addr) → is_among r rs ≡ false → is_up d u r ≡ is_up c u r

-- who is not among these is an end of a session still, or still is none
abbrev pub EndsStayBut : Configuration → Configuration → List Addr → Type 0
EndsStayBut c d rs = (r : Addr) → is_among r rs ≡ false → ends_session d r ≡ ends_session c r

-- the sessions that are down by the other configuration, and whom it concerns besides those whose costs have moved
pub record IsTurned (c d : Configuration) (moved : List Addr) (down : List Ends) (turned : List Addr) : Type 0 where
  pub are_down : AreDown d down
  pub sessions : SessionsStayBut c d turned
  pub ends : EndsStayBut c d turned
  pub alone : (r : Addr) → is_among r moved ≡ false → is_among r turned ≡ false → StaysAt c d r

-- the edit is not refused and makes the other configuration, and no session but of these comes up or goes down
pub record IsMadeBy (c d : Configuration) (e : Edit) (turned : List Addr) : Type 0 where
  pub passes : refusal_of c e ≡ None
  pub made : d ≡ edited c e
  pub sessions : SessionsStayBut c d turned

-- THE SITES OF THE ENDS OF SESSIONS

-- each router that has a session has its site here, and nobody else has one
abbrev pub AreSitesKept : Configuration → List (Addr × SiteConf) → Type 0
AreSitesKept c sites = (r : Addr) → lookup (is_at (addr_cmp r)) sites ≡ site_kept c r

-- the two differ in their links alone
abbrev pub IsRelinked : Configuration → Configuration → Type 0
IsRelinked c d = d ≡ record c { links = d.links }

-- the session, up where it is by the configuration
abbrev pub asked : Configuration → Addr → SiteSession → SiteSession
asked d r x = record x { up = is_up d r x.peer }

-- the site, with the costs and the state of the sessions by the configuration
abbrev pub relinked : Configuration → Addr → SiteConf → SiteConf
relinked d r s = record s { sessions = map (asked d r) s.sessions; costs = costs_of d r }

-- what a router originates, after an edit of that
abbrev pub origins_after : Edit → List Prefix → List Prefix
origins_after (Origin a p) ps = insert_key prefix_cmp ps p
origins_after (NoOrigin a p) ps = remove_key (is_at (prefix_cmp p)) ps
origins_after _ ps = ps

-- the site of the router whose originations the edit changes
abbrev pub reoriginated : Edit → SiteConf → SiteConf
reoriginated e s = record s { origins = origins_after e s.origins }

-- the router's session, by the configuration where it is with this peer
abbrev pub settled : Configuration → Addr → Addr → SiteSession → SiteSession
settled d r u x = if x.peer.0 == u.0 then session_of d r u else x

-- the site, with the session with the peer by the configuration; and so whether it is a reflector, where its clients
-- change
abbrev pub resettled : Configuration → Addr → Addr → Bool → SiteConf → SiteConf
resettled d r u clients s = record s {
  reflector = if clients then is_reflector d r else s.reflector;
  sessions = map (settled d r u) s.sessions;
}

-- of the router's part its session with the peer differs alone, and whether it is a reflector, where its clients change
pub record IsResettled (c d : Configuration) (r u : Addr) (clients : Bool) : Type 0 where
  pub site : router_site d r ≡ option_map (resettled d r u clients) (router_site c r)

-- the session is with a peer below this one, or above it
abbrev pub is_below : Addr → SiteSession → Bool
is_below u x = nat_lt x.peer.0 u.0

abbrev pub is_above : Addr → SiteSession → Bool
is_above u x = nat_lt u.0 x.peer.0

-- the sessions, with this one in its place
abbrev pub sessions_with : SiteSession → List SiteSession → List SiteSession
sessions_with x xs = filter (is_below x.peer) xs ++ x ∷ filter (is_above x.peer) xs

-- the site, with a session with the peer by the configuration more
abbrev pub extended : Configuration → Addr → Addr → SiteConf → SiteConf
extended d r u s = record s { sessions = sessions_with (session_of d r u) s.sessions }

-- the router's part has a session with the peer more, and differs in that alone
abbrev pub IsExtended : Configuration → Configuration → Addr → Addr → Type 0
IsExtended c d r u = router_site d r ≡ option_map (extended d r u) (router_site c r)

-- the site, with the CLUSTER_ID by the configuration
abbrev pub reclustered : Configuration → Addr → SiteConf → SiteConf
reclustered d r s = record s { cluster = cluster_id d r }

-- of the router's part its CLUSTER_ID differs alone
pub record IsReclustered (c d : Configuration) (r : Addr) : Type 0 where
  pub site : router_site d r ≡ option_map (reclustered d r) (router_site c r)

-- the site, with how it compares MULTI_EXIT_DISC by the configuration
abbrev pub recompared : Configuration → Addr → SiteConf → SiteConf
recompared d r s = record s { med_always = compares_all_meds d r }

-- of the router's part how it compares MULTI_EXIT_DISC differs alone
pub record IsRecompared (c d : Configuration) (r : Addr) : Type 0 where
  pub site : router_site d r ≡ option_map (recompared d r) (router_site c r)

-- it makes a client of a peer, or takes it for one no more
abbrev pub sets_client : Edit → Bool
sets_client (Client a b on) = true
sets_client _ = false

-- the site by the configuration to which the edit has led, made of the one before by what the edit changes of it
abbrev pub site_from : Configuration → Edit → Addr → SiteEffect → SiteConf → Option SiteConf
site_from d e r Costs s = Some (relinked d r s)
site_from d e r Origins s = Some (reoriginated e s)
site_from d e r (Session u) s = Some (resettled d r u (sets_client e) s)
site_from d e r (NewSession u) s = Some (extended d r u s)
site_from d e r ClusterId s = Some (reclustered d r s)
site_from d e r MedComparison s = Some (recompared d r s)
site_from d e r Other s = router_site d r

-- WHAT AN EDIT TOUCHES

-- the end is among them
abbrev pub has_end : End → List End → Bool
has_end e es = list_any (is_at (end_cmp e)) es

-- it asks for what is so already: a state of a link or a session, or a setting of a router
abbrev pub has_setting : Configuration → Edit → Bool
has_setting c (Fail a b) = not (has_link_up c a b)
has_setting c (Mend a b) = has_link_up c a b
has_setting c (Stop a b) = not (unwrap_or (session_between c a b) true)
has_setting c (Start a b) = unwrap_or (session_between c a b) false
has_setting c (Client a b on) = beq (is_client c a b) on
has_setting c (OwnNext a b on) = beq (puts_itself c a b) on
has_setting c (MedAlways a on) = beq (compares_all_meds c a) on
has_setting c _ = false

-- the metric of a new link, or the new one of a link, is one
abbrev pub HasMetric : Edit → Type 0
HasMetric (Link a b m) = IsMetric m
HasMetric (Metric a b m) = IsMetric m
HasMetric _ = Unit {0}

-- the address that it adds
abbrev pub node_in : Edit → Option Addr
node_in (Router a n) = Some a
node_in (Virtual a n) = Some a
node_in _ = None

-- the ends of the link that it makes or changes
abbrev pub link_in : Edit → Option (Addr × Addr)
link_in (Link a b m) = Some (a, b)
link_in (Metric a b m) = Some (a, b)
link_in (Fail a b) = Some (a, b)
link_in (Mend a b) = Some (a, b)
link_in _ = None

-- the ends of the session that it makes or changes
abbrev pub session_in : Edit → Option (Addr × Addr)
session_in (Join a b) = Some (a, b)
session_in (Stop a b) = Some (a, b)
session_in (Start a b) = Some (a, b)
session_in _ = None

-- the effect, where the router is the one at the address
abbrev pub effect_at : Addr → Addr → SiteEffect → SiteEffect
effect_at r a x = if r.0 == a.0 then x else Other

-- what of the router's site the edit changes
abbrev pub effect_on : Edit → Addr → SiteEffect
effect_on (Router a n) r = Other
effect_on (Virtual a n) r = Other
effect_on (Link a b m) r = Costs
effect_on (Metric a b m) r = Costs
effect_on (Fail a b) r = Costs
effect_on (Mend a b) r = Costs
effect_on (Join a b) r = if r.0 == a.0 then NewSession b else effect_at r b (NewSession a)
effect_on (Stop a b) r = if r.0 == a.0 then Session b else effect_at r b (Session a)
effect_on (Start a b) r = if r.0 == a.0 then Session b else effect_at r b (Session a)
effect_on (Client a b on) r = effect_at r a (Session b)
effect_on (OwnNext a b on) r = effect_at r a (Session b)
effect_on (Cluster a id) r = effect_at r a ClusterId
effect_on (MedAlways a on) r = effect_at r a MedComparison
effect_on (Rule a b side rule) r = effect_at r a (Session b)
effect_on (Clear a b side) r = effect_at r a (Session b)
effect_on (Origin a p) r = effect_at r a Origins
effect_on (NoOrigin a p) r = effect_at r a Origins

-- the one makes the other with a link of the two
pub record IsLinked (c d : Configuration) (a b : Addr) : Type 0 where
  pub link : TheLink
  pub is : d ≡ with_link c a b link

-- the one makes the other with a link of these ends
pub record AreLinked (c d : Configuration) (e : Ends) : Type 0 where
  pub one : Addr
  pub other : Addr
  pub ends : e ≡ ends_of one other
  pub linked : IsLinked c d one other

-- the one makes the other with a session of the two
pub record IsJoined (c d : Configuration) (a b : Addr) : Type 0 where
  pub enabled : Bool
  pub is : d ≡ with_session c a b enabled

-- the metric of the link, if it is up
abbrev pub metric_of : Option TheLink → Option ℕ
metric_of None = None
metric_of (Some l) = if l.up then Some l.metric else None

-- the metric of the link of the two, if it is up
abbrev pub metric_up : Configuration → Addr → Addr → Option ℕ
metric_up c a b = metric_of (link_between c a b)

-- what the metrics of a link before and after, if it is up, change of the edges
abbrev pub edge_change : Ends → Option ℕ → Option ℕ → Option Change
edge_change e None after = option_map (λ m. Added e.low e.high m) after
edge_change e (Some old) None = Some (Removed e.low e.high)
edge_change e (Some old) (Some m) = if old == m then None else Some (Changed e.low e.high m)
