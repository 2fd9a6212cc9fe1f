-- What a router advertises to a peer of the route that it chose (RFC 4271, 5.1, 9.1.3 and 9.2; RFC 4456, 6, 8 and 10;
-- RFC 1997).
use Rattle.std.specs.Prelude.{ℕ, Bool, false, ◌&&◌, ◌||◌, ◌==◌, List, [], ◌∷◌, Option, Some, None, option_and_then, if◌then◌else◌}
use Rattle.std.specs.Option.{unwrap_or, option_map_or}
use Rattle.net_prefix.specs.declared.addr.Addr.{Addr}
use Rattle.net_prefix.specs.Prefix.{Prefix}
use Rattle.path_attr.specs.declared.attr.Attr.{Attr}
use Rattle.path_attr.specs.Attribute.{plain_attr}
use Rattle.path_attr.specs.Communities.{no_export, no_advertise, no_export_subconfed, carries, with_given}
use Rattle.path_attr.specs.Path.{prepended, prepended_times}
use Rattle.route_policy.specs.declared.rule.Settings.{Settings}
use Rattle.route_policy.specs.declared.rule.Action.{Action}
use Rattle.route_policy.specs.declared.rule.Action.TheVariants.{Deny, Permit}
use Rattle.route_policy.specs.Judging.{judged}
use Rattle.route_select.specs.declared.candidate.Source.{Source}
use Rattle.route_select.specs.declared.candidate.Source.TheVariants.{Own, Peer as FromPeer}
use Rattle.route_select.specs.declared.candidate.Candidate.{Candidate}
use Rattle.net_conf.specs.declared.site.SiteConf.{SiteConf}
use Rattle.net_conf.specs.declared.site.SiteSession.{SiteSession}
use Rattle.net_conf.specs.Sites.{session_with}

-- the route was learned from this peer
abbrev pub is_from : Addr → Source → Bool
is_from u Own = false
is_from u (FromPeer v) = v.0 == u.0

-- the route stays where it is: at its router with NO_ADVERTISE; within its AS with NO_EXPORT, and, since there are no
-- confederations (own), with NO_EXPORT_SUBCONFED alike (RFC 1997). Other communities mean nothing by themselves
abbrev pub is_kept_back : Bool → List ℕ → Bool
is_kept_back external cs = carries no_advertise cs
    || (external && (carries no_export cs || carries no_export_subconfed cs))

-- towards another AS: the own AS in front, once and once more for each prepend; the router as NEXT_HOP; no LOCAL_PREF,
-- ORIGINATOR_ID or CLUSTER_LIST; ORIGIN as it is (RFC 4271, 5.1.1 to 5.1.5; RFC 4456, 8). (own) MED only where the
-- export policy sets it, also of the router's own route: a received one must not go on to another AS (RFC 4271, 5.1.4).
-- Communities go on, with the one that the export policy adds (RFC 1997)
abbrev pub to_other_as : SiteConf → Settings → Attr → Attr
to_other_as site s attr = record (plain_attr site.me) {
  path = prepended site.asn (prepended_times (unwrap_or s.prepend 0) site.asn attr.path);
  origin = attr.origin;
  med = s.med;
  comms = with_given s.add attr.comms;
}

-- inside the AS, of the router's own route or an external one: LOCAL_PREF is the preference, and NEXT_HOP stays, unless
-- the router puts itself (RFC 4271, 5.1.3 and 5.1.5); all else stays. (own) Here an export policy denies or permits;
-- its settings act towards another AS alone
abbrev pub to_own_as : SiteConf → SiteSession → Candidate → Attr
to_own_as site to b = record b.attr {
  next = if to.own_next then site.me else b.attr.next;
  pref = Some b.pref;
  oid = None;
  clusters = [];
}

-- inside the AS, of an internal peer's route: the peer is its originator, unless it has one, and the router's
-- CLUSTER_ID is put in front; all else stays (RFC 4456, 8 and 10). (own) So does NEXT_HOP, also where the router puts
-- itself in others
abbrev pub reflected : SiteConf → Addr → Attr → Attr
reflected site u attr = record attr { oid = Some (unwrap_or attr.oid u); clusters = site.cluster ∷ attr.clusters }

-- the peer is a client of the router
abbrev pub is_client_of : SiteConf → Addr → Bool
is_client_of site u = option_map_or (λ x. x.client) (session_with site u) false

-- an internal peer's route, inside the AS: only from a client, or to one (RFC 4456, 6)
abbrev pub reflected_to : SiteConf → SiteSession → Candidate → Source → Option Attr
reflected_to site to b Own = None
reflected_to site to b (FromPeer u) = if is_client_of site u || to.client then Some (reflected site u b.attr) else None

abbrev pub inside : SiteConf → SiteSession → Candidate → Option Attr
inside site to b = if b.external then Some (to_own_as site to b) else reflected_to site to b b.source

-- what is advertised over the session, as the export policy judged it
abbrev pub permitted : SiteConf → SiteSession → Candidate → Action → Option Attr
permitted site to b Deny = None
permitted site to b (Permit s) = if to.external then Some (to_other_as site s b.attr) else inside site to b

-- what is advertised over the session: nothing of a route that its communities keep back, whatever the export policy
-- would add
abbrev pub advertised_over : SiteConf → Prefix → Candidate → SiteSession → Option Attr
advertised_over site p b to = if is_kept_back to.external b.attr.comms then None
    else permitted site to b (judged to.policy_out p b.attr)

-- what the router advertises to the peer of the route that it chose for the prefix. (own) Nothing where it learned the
-- route from that peer
unfoldable pub advert : SiteConf → Prefix → Candidate → Addr → Option Attr
advert site p b t = if is_from t b.source then None
    else option_and_then (advertised_over site p b) (session_with site t)
