-- What an edit does, and when it is refused: which edits there are, and by which tests they are refused, is this
-- project's choice (own).
use Rattle.std.specs.Prelude.{◌≡◌, ℕ, Bool, true, false, not, ◌==◌, ◌&&◌, ◌||◌, nat_le, List, [], ◌∷◌, ◌++◌, length, Option, Some, None, is_some, Result, Ok, Err, if◌then◌else◌}
use Rattle.std.specs.Map.{remove_entry}
use Rattle.std.specs.Set.{remove_key}
use Rattle.std.specs.BTreeMap.{insert_entry, is_at}
use Rattle.std.specs.BTreeSet.{insert_key}
use Rattle.net_prefix.specs.declared.addr.Addr.{Addr}
use Rattle.net_prefix.specs.Address.{addr_cmp}
use Rattle.route_policy.specs.declared.rule.Rule.{Rule}
use Rattle.route_policy.specs.declared.rule.Settings.{Settings}
use Rattle.route_policy.specs.declared.rule.Action.{Action}
use Rattle.route_policy.specs.declared.rule.Action.TheVariants.{Deny, Permit}
use Rattle.igp_cost.specs.Limits.{most_nodes}
use Rattle.route_policy.specs.Limits.{is_full}
use Rattle.net_conf.specs.Limits.{most_links, most_sessions}
use Rattle.net_conf.specs.declared.tables.End.{End}
use Rattle.net_conf.specs.declared.tables.Link.{Link as TheLink}
use Rattle.net_conf.specs.declared.tables.PolicySide.{PolicySide}
use Rattle.net_conf.specs.declared.tables.PolicySide.TheVariants.{Import, Export}
use Rattle.net_conf.specs.declared.tables.Kind.TheVariants.{Router as AsRouter, Virtual as AsVirtual}
use Rattle.net_conf.specs.declared.edit.Edit.{Edit}
use Rattle.net_conf.specs.declared.edit.Edit.TheVariants.{Router, Virtual, Link, Metric, Fail, Mend, Join, Stop, Start, Client, OwnNext, Cluster, MedAlways, Rule as AddRule, Clear, Origin, NoOrigin}
use Rattle.net_conf.specs.declared.refusal.Refusal.{Refusal}
use Rattle.net_conf.specs.declared.refusal.Refusal.TheVariants.{NoRouter, RouterExists, SameRouter, BadEnd, VirtualInside, NoLink, LinkExists, NotLinked, NoSession, SessionExists, InternalOnly, RuleNotAllowed, OriginExists, NoOrigin as NotOriginated, Limit, Memory}
use Rattle.net_conf.specs.Configuration.{Configuration, has_node, is_virtual, is_external, ends_of, ends_cmp, end_of, end_cmp, link_between, has_link, has_session, session_count, rules_at, import_rules, export_rules, originates, origination_cmp}

-- REFUSALS

abbrev pub lacks_either : Configuration → Addr → Addr → Bool
lacks_either c a b = not (has_node c a && has_node c b)

-- 2: a router or peer that the edit names is not there
abbrev pub lacks_node : Configuration → Edit → Bool
lacks_node c (Router a n) = false
lacks_node c (Virtual a n) = false
lacks_node c (Link a b m) = lacks_either c a b
lacks_node c (Metric a b m) = lacks_either c a b
lacks_node c (Fail a b) = lacks_either c a b
lacks_node c (Mend a b) = lacks_either c a b
lacks_node c (Join a b) = lacks_either c a b
lacks_node c (Stop a b) = lacks_either c a b
lacks_node c (Start a b) = lacks_either c a b
lacks_node c (Client a b on) = lacks_either c a b
lacks_node c (OwnNext a b on) = lacks_either c a b
lacks_node c (Cluster a id) = not (has_node c a)
lacks_node c (MedAlways a on) = not (has_node c a)
lacks_node c (AddRule a b side rule) = lacks_either c a b
lacks_node c (Clear a b side) = lacks_either c a b
lacks_node c (Origin a p) = not (has_node c a)
lacks_node c (NoOrigin a p) = not (has_node c a)

-- 3: the address that it adds is taken
abbrev pub repeats_node : Configuration → Edit → Bool
repeats_node c (Router a n) = has_node c a
repeats_node c (Virtual a n) = has_node c a
repeats_node c (Link a b m) = false
repeats_node c (Metric a b m) = false
repeats_node c (Fail a b) = false
repeats_node c (Mend a b) = false
repeats_node c (Join a b) = false
repeats_node c (Stop a b) = false
repeats_node c (Start a b) = false
repeats_node c (Client a b on) = false
repeats_node c (OwnNext a b on) = false
repeats_node c (Cluster a id) = false
repeats_node c (MedAlways a on) = false
repeats_node c (AddRule a b side rule) = false
repeats_node c (Clear a b side) = false
repeats_node c (Origin a p) = false
repeats_node c (NoOrigin a p) = false

-- 4: both ends are one
abbrev pub has_one_end : Edit → Bool
has_one_end (Router a n) = false
has_one_end (Virtual a n) = false
has_one_end (Link a b m) = a.0 == b.0
has_one_end (Metric a b m) = false
has_one_end (Fail a b) = false
has_one_end (Mend a b) = false
has_one_end (Join a b) = a.0 == b.0
has_one_end (Stop a b) = false
has_one_end (Start a b) = false
has_one_end (Client a b on) = false
has_one_end (OwnNext a b on) = false
has_one_end (Cluster a id) = false
has_one_end (MedAlways a on) = false
has_one_end (AddRule a b side rule) = false
has_one_end (Clear a b side) = false
has_one_end (Origin a p) = false
has_one_end (NoOrigin a p) = false

-- 5: both ends are virtual, or a virtual peer stands where a router is needed
abbrev pub has_bad_end : Configuration → Edit → Bool
has_bad_end c (Router a n) = false
has_bad_end c (Virtual a n) = false
has_bad_end c (Link a b m) = is_virtual c a && is_virtual c b
has_bad_end c (Metric a b m) = false
has_bad_end c (Fail a b) = false
has_bad_end c (Mend a b) = false
has_bad_end c (Join a b) = is_virtual c a && is_virtual c b
has_bad_end c (Stop a b) = false
has_bad_end c (Start a b) = false
has_bad_end c (Client a b on) = is_virtual c a
has_bad_end c (OwnNext a b on) = is_virtual c a
has_bad_end c (Cluster a id) = is_virtual c a
has_bad_end c (MedAlways a on) = is_virtual c a
has_bad_end c (AddRule a b side rule) = is_virtual c a
has_bad_end c (Clear a b side) = is_virtual c a
has_bad_end c (Origin a p) = is_virtual c a
has_bad_end c (NoOrigin a p) = is_virtual c a

-- one of the two is virtual, and both are in one AS
abbrev pub has_virtual_inside : Configuration → Addr → Addr → Bool
has_virtual_inside c a b = (is_virtual c a || is_virtual c b) && not (is_external c a b)

-- 6: a virtual peer would be linked or joined within its own AS
abbrev pub is_inside : Configuration → Edit → Bool
is_inside c (Router a n) = false
is_inside c (Virtual a n) = false
is_inside c (Link a b m) = has_virtual_inside c a b
is_inside c (Metric a b m) = false
is_inside c (Fail a b) = false
is_inside c (Mend a b) = false
is_inside c (Join a b) = has_virtual_inside c a b
is_inside c (Stop a b) = false
is_inside c (Start a b) = false
is_inside c (Client a b on) = false
is_inside c (OwnNext a b on) = false
is_inside c (Cluster a id) = false
is_inside c (MedAlways a on) = false
is_inside c (AddRule a b side rule) = false
is_inside c (Clear a b side) = false
is_inside c (Origin a p) = false
is_inside c (NoOrigin a p) = false

-- 7: the two have no link
abbrev pub lacks_link : Configuration → Edit → Bool
lacks_link c (Router a n) = false
lacks_link c (Virtual a n) = false
lacks_link c (Link a b m) = false
lacks_link c (Metric a b m) = not (has_link c a b)
lacks_link c (Fail a b) = not (has_link c a b)
lacks_link c (Mend a b) = not (has_link c a b)
lacks_link c (Join a b) = false
lacks_link c (Stop a b) = false
lacks_link c (Start a b) = false
lacks_link c (Client a b on) = false
lacks_link c (OwnNext a b on) = false
lacks_link c (Cluster a id) = false
lacks_link c (MedAlways a on) = false
lacks_link c (AddRule a b side rule) = false
lacks_link c (Clear a b side) = false
lacks_link c (Origin a p) = false
lacks_link c (NoOrigin a p) = false

-- 8: the two have a link
abbrev pub repeats_link : Configuration → Edit → Bool
repeats_link c (Router a n) = false
repeats_link c (Virtual a n) = false
repeats_link c (Link a b m) = has_link c a b
repeats_link c (Metric a b m) = false
repeats_link c (Fail a b) = false
repeats_link c (Mend a b) = false
repeats_link c (Join a b) = false
repeats_link c (Stop a b) = false
repeats_link c (Start a b) = false
repeats_link c (Client a b on) = false
repeats_link c (OwnNext a b on) = false
repeats_link c (Cluster a id) = false
repeats_link c (MedAlways a on) = false
repeats_link c (AddRule a b side rule) = false
repeats_link c (Clear a b side) = false
repeats_link c (Origin a p) = false
repeats_link c (NoOrigin a p) = false

-- 9: the two are in different ASes and have no link
abbrev pub is_unlinked : Configuration → Edit → Bool
is_unlinked c (Router a n) = false
is_unlinked c (Virtual a n) = false
is_unlinked c (Link a b m) = false
is_unlinked c (Metric a b m) = false
is_unlinked c (Fail a b) = false
is_unlinked c (Mend a b) = false
is_unlinked c (Join a b) = is_external c a b && not (has_link c a b)
is_unlinked c (Stop a b) = false
is_unlinked c (Start a b) = false
is_unlinked c (Client a b on) = false
is_unlinked c (OwnNext a b on) = false
is_unlinked c (Cluster a id) = false
is_unlinked c (MedAlways a on) = false
is_unlinked c (AddRule a b side rule) = false
is_unlinked c (Clear a b side) = false
is_unlinked c (Origin a p) = false
is_unlinked c (NoOrigin a p) = false

-- 10: the two have no session
abbrev pub lacks_session : Configuration → Edit → Bool
lacks_session c (Router a n) = false
lacks_session c (Virtual a n) = false
lacks_session c (Link a b m) = false
lacks_session c (Metric a b m) = false
lacks_session c (Fail a b) = false
lacks_session c (Mend a b) = false
lacks_session c (Join a b) = false
lacks_session c (Stop a b) = not (has_session c a b)
lacks_session c (Start a b) = not (has_session c a b)
lacks_session c (Client a b on) = not (has_session c a b)
lacks_session c (OwnNext a b on) = not (has_session c a b)
lacks_session c (Cluster a id) = false
lacks_session c (MedAlways a on) = false
lacks_session c (AddRule a b side rule) = not (has_session c a b)
lacks_session c (Clear a b side) = not (has_session c a b)
lacks_session c (Origin a p) = false
lacks_session c (NoOrigin a p) = false

-- 11: the two have a session
abbrev pub repeats_session : Configuration → Edit → Bool
repeats_session c (Router a n) = false
repeats_session c (Virtual a n) = false
repeats_session c (Link a b m) = false
repeats_session c (Metric a b m) = false
repeats_session c (Fail a b) = false
repeats_session c (Mend a b) = false
repeats_session c (Join a b) = has_session c a b
repeats_session c (Stop a b) = false
repeats_session c (Start a b) = false
repeats_session c (Client a b on) = false
repeats_session c (OwnNext a b on) = false
repeats_session c (Cluster a id) = false
repeats_session c (MedAlways a on) = false
repeats_session c (AddRule a b side rule) = false
repeats_session c (Clear a b side) = false
repeats_session c (Origin a p) = false
repeats_session c (NoOrigin a p) = false

-- 12: a setting of internal sessions, on an external one
abbrev pub needs_internal : Configuration → Edit → Bool
needs_internal c (Router a n) = false
needs_internal c (Virtual a n) = false
needs_internal c (Link a b m) = false
needs_internal c (Metric a b m) = false
needs_internal c (Fail a b) = false
needs_internal c (Mend a b) = false
needs_internal c (Join a b) = false
needs_internal c (Stop a b) = false
needs_internal c (Start a b) = false
needs_internal c (Client a b on) = is_external c a b
needs_internal c (OwnNext a b on) = is_external c a b
needs_internal c (Cluster a id) = false
needs_internal c (MedAlways a on) = false
needs_internal c (AddRule a b side rule) = false
needs_internal c (Clear a b side) = false
needs_internal c (Origin a p) = false
needs_internal c (NoOrigin a p) = false

-- the rule gives a setting
abbrev pub sets_anything : Settings → Bool
sets_anything s = is_some s.pref || is_some s.med || is_some s.prepend || is_some s.add

-- what a rule may not set: anything on an internal session; on an external one a prepend in the import policy, and a
-- preference in the export policy (own)
abbrev pub sets_too_much : Bool → PolicySide → Action → Bool
sets_too_much external side Deny = false
sets_too_much false side (Permit s) = sets_anything s
sets_too_much true Import (Permit s) = is_some s.prepend
sets_too_much true Export (Permit s) = is_some s.pref

-- 13: the rule sets what it may not set there
abbrev pub breaks_rule : Configuration → Edit → Bool
breaks_rule c (Router a n) = false
breaks_rule c (Virtual a n) = false
breaks_rule c (Link a b m) = false
breaks_rule c (Metric a b m) = false
breaks_rule c (Fail a b) = false
breaks_rule c (Mend a b) = false
breaks_rule c (Join a b) = false
breaks_rule c (Stop a b) = false
breaks_rule c (Start a b) = false
breaks_rule c (Client a b on) = false
breaks_rule c (OwnNext a b on) = false
breaks_rule c (Cluster a id) = false
breaks_rule c (MedAlways a on) = false
breaks_rule c (AddRule a b side rule) = sets_too_much (is_external c a b) side rule.act
breaks_rule c (Clear a b side) = false
breaks_rule c (Origin a p) = false
breaks_rule c (NoOrigin a p) = false

-- 14: the router originates the prefix
abbrev pub repeats_origin : Configuration → Edit → Bool
repeats_origin c (Router a n) = false
repeats_origin c (Virtual a n) = false
repeats_origin c (Link a b m) = false
repeats_origin c (Metric a b m) = false
repeats_origin c (Fail a b) = false
repeats_origin c (Mend a b) = false
repeats_origin c (Join a b) = false
repeats_origin c (Stop a b) = false
repeats_origin c (Start a b) = false
repeats_origin c (Client a b on) = false
repeats_origin c (OwnNext a b on) = false
repeats_origin c (Cluster a id) = false
repeats_origin c (MedAlways a on) = false
repeats_origin c (AddRule a b side rule) = false
repeats_origin c (Clear a b side) = false
repeats_origin c (Origin a p) = originates c a p
repeats_origin c (NoOrigin a p) = false

-- 15: the router does not originate the prefix
abbrev pub lacks_origin : Configuration → Edit → Bool
lacks_origin c (Router a n) = false
lacks_origin c (Virtual a n) = false
lacks_origin c (Link a b m) = false
lacks_origin c (Metric a b m) = false
lacks_origin c (Fail a b) = false
lacks_origin c (Mend a b) = false
lacks_origin c (Join a b) = false
lacks_origin c (Stop a b) = false
lacks_origin c (Start a b) = false
lacks_origin c (Client a b on) = false
lacks_origin c (OwnNext a b on) = false
lacks_origin c (Cluster a id) = false
lacks_origin c (MedAlways a on) = false
lacks_origin c (AddRule a b side rule) = false
lacks_origin c (Clear a b side) = false
lacks_origin c (Origin a p) = false
lacks_origin c (NoOrigin a p) = not (originates c a p)

-- the rules of the router for what comes from the peer, or goes to it
abbrev pub rules_of : Configuration → Addr → Addr → PolicySide → List Rule
rules_of c a b Import = import_rules c a b
rules_of c a b Export = export_rules c a b

-- 19: there are as many routers and peers, links, sessions at an end, or rules in the policy as there may be (own)
abbrev pub is_past_limit : Configuration → Edit → Bool
is_past_limit c (Router a n) = nat_le most_nodes (length c.nodes)
is_past_limit c (Virtual a n) = nat_le most_nodes (length c.nodes)
is_past_limit c (Link a b m) = nat_le most_links (length c.links)
is_past_limit c (Metric a b m) = false
is_past_limit c (Fail a b) = false
is_past_limit c (Mend a b) = false
is_past_limit c (Join a b) = nat_le most_sessions (session_count c a) || nat_le most_sessions (session_count c b)
is_past_limit c (Stop a b) = false
is_past_limit c (Start a b) = false
is_past_limit c (Client a b on) = false
is_past_limit c (OwnNext a b on) = false
is_past_limit c (Cluster a id) = false
is_past_limit c (MedAlways a on) = false
is_past_limit c (AddRule a b side rule) = is_full (rules_of c a b side)
is_past_limit c (Clear a b side) = false
is_past_limit c (Origin a p) = false
is_past_limit c (NoOrigin a p) = false

-- the first refusal whose test holds
abbrev pub first_of : List (Bool × Refusal) → Option Refusal
first_of [] = None
first_of (t ∷ ts) = if t.0 then Some t.1 else first_of ts

-- the tests of an edit, in the order of their numbers
abbrev pub tests_of : Configuration → Edit → List (Bool × Refusal)
tests_of c e =
    (lacks_node c e, NoRouter)
    ∷ (repeats_node c e, RouterExists)
    ∷ (has_one_end e, SameRouter)
    ∷ (has_bad_end c e, BadEnd)
    ∷ (is_inside c e, VirtualInside)
    ∷ (lacks_link c e, NoLink)
    ∷ (repeats_link c e, LinkExists)
    ∷ (is_unlinked c e, NotLinked)
    ∷ (lacks_session c e, NoSession)
    ∷ (repeats_session c e, SessionExists)
    ∷ (needs_internal c e, InternalOnly)
    ∷ (breaks_rule c e, RuleNotAllowed)
    ∷ (repeats_origin c e, OriginExists)
    ∷ (lacks_origin c e, NotOriginated)
    ∷ (is_past_limit c e, Limit)
    ∷ []

-- why the edit is refused: the first test that holds
unfoldable pub refusal_of : Configuration → Edit → Option Refusal
refusal_of c e = first_of (tests_of c e)

-- EDITS

-- the links, with this one between the two
abbrev pub with_link : Configuration → Addr → Addr → TheLink → Configuration
with_link c a b link = record c { links = insert_entry ends_cmp c.links (ends_of a b) link }

-- what is configured, with the link of the two changed, if they have one
abbrev pub with_link_changed : Configuration → Addr → Addr → (TheLink → TheLink) → Option TheLink → Configuration
with_link_changed c a b change None = c
with_link_changed c a b change (Some link) = with_link c a b (change link)

abbrev pub with_metric : ℕ → TheLink → TheLink
with_metric m link = record link { metric = m }

abbrev pub with_state : Bool → TheLink → TheLink
with_state up link = record link { up = up }

-- the session of the two, enabled or not
abbrev pub with_session : Configuration → Addr → Addr → Bool → Configuration
with_session c a b enabled = record c { sessions = insert_entry ends_cmp c.sessions (ends_of a b) enabled }

-- the ends, with this one or without it
abbrev pub switched : Bool → End → List End → List End
switched true e es = insert_key end_cmp es e
switched false e es = remove_key (is_at (end_cmp e)) es

-- the routers, with this one or without it
abbrev pub router_switched : Bool → Addr → List Addr → List Addr
router_switched true r rs = insert_key addr_cmp rs r
router_switched false r rs = remove_key (is_at (addr_cmp r)) rs

-- the policies, with a rule at the end of the one of this end
abbrev pub with_rule : End → Rule → List (End × List Rule) → List (End × List Rule)
with_rule e rule policies = insert_entry end_cmp policies e (rules_at policies e ++ rule ∷ [])

-- the policies, without the one of this end
abbrev pub without_rules : End → List (End × List Rule) → List (End × List Rule)
without_rules e policies = remove_entry (is_at (end_cmp e)) policies

-- what is configured, with one more rule of the router's for what comes from the peer, or goes to it
abbrev pub with_rule_of : Configuration → Addr → Addr → PolicySide → Rule → Configuration
with_rule_of c a b Import rule = record c { imports = with_rule (end_of a b) rule c.imports }
with_rule_of c a b Export rule = record c { exports = with_rule (end_of a b) rule c.exports }

-- what is configured, with no rule of the router's for what comes from the peer, or goes to it
abbrev pub without_rules_of : Configuration → Addr → Addr → PolicySide → Configuration
without_rules_of c a b Import = record c { imports = without_rules (end_of a b) c.imports }
without_rules_of c a b Export = record c { exports = without_rules (end_of a b) c.exports }

-- what is configured after an edit that is not refused
abbrev pub edited : Configuration → Edit → Configuration
edited c (Router a n) = record c { nodes = insert_entry addr_cmp c.nodes a (record { asn = n; kind = AsRouter }) }
edited c (Virtual a n) = record c { nodes = insert_entry addr_cmp c.nodes a (record { asn = n; kind = AsVirtual }) }
edited c (Link a b m) = with_link c a b (record { metric = m; up = true })
edited c (Metric a b m) = with_link_changed c a b (with_metric m) (link_between c a b)
edited c (Fail a b) = with_link_changed c a b (with_state false) (link_between c a b)
edited c (Mend a b) = with_link_changed c a b (with_state true) (link_between c a b)
edited c (Join a b) = with_session c a b true
edited c (Stop a b) = with_session c a b false
edited c (Start a b) = with_session c a b true
edited c (Client a b on) = record c { clients = switched on (end_of a b) c.clients }
edited c (OwnNext a b on) = record c { own_next = switched on (end_of a b) c.own_next }
edited c (Cluster a id) = record c { clusters = insert_entry addr_cmp c.clusters a id }
edited c (MedAlways a on) = record c { med_always = router_switched on a c.med_always }
edited c (AddRule a b side rule) = with_rule_of c a b side rule
edited c (Clear a b side) = without_rules_of c a b side
edited c (Origin a p) = record c { origins = insert_key origination_cmp c.origins (record { router = a; prefix = p }) }
edited c (NoOrigin a p) =
    record c { origins = remove_key (is_at (origination_cmp (record { router = a; prefix = p }))) c.origins }

-- the refusal of a test, or want of memory where there is none
abbrev pub refusal_or_memory : Option Refusal → Refusal
refusal_or_memory None = Memory
refusal_or_memory (Some r) = r

-- the outcome of an edit: done where no test holds; refused by the first test that holds, or for want of
-- memory where none does; a refusal changes nothing
abbrev pub IsEdit : Configuration → Edit → Result Unit Refusal → Configuration → Type 0
IsEdit c e (Ok u) d = (refusal_of c e ≡ None) × (d ≡ edited c e)
IsEdit c e (Err r) d = (refusal_or_memory (refusal_of c e) ≡ r) × (d ≡ c)

-- the configuration after an edit, made beside the one before: there is none where a test holds, or for want of memory
abbrev pub IsEdited : Configuration → Edit → Result Configuration Refusal → Type 0
IsEdited c e (Ok d) = (refusal_of c e ≡ None) × (d ≡ edited c e)
IsEdited c e (Err r) = refusal_or_memory (refusal_of c e) ≡ r
