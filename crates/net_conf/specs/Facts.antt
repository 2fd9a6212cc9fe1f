-- What of a site does not depend on costs and originated prefixes.
use Rattle.std.specs.Prelude.{Bool, ◌&&◌, ◌==◌, List}
use Rattle.std.proofs.Math.Bool.{beq}
use Rattle.std.specs.Cmp.Lexicographic.{pointwise}
use Rattle.net_prefix.specs.Address.{same_addr}
use Rattle.path_attr.specs.Number.{same_number}
use Rattle.route_policy.specs.Sameness.{same_policy}
use Rattle.net_prefix.specs.Prefix.{Prefix}
use Rattle.igp_cost.specs.Trees.{Reached}
use Rattle.net_conf.specs.declared.site.SiteConf.{SiteConf}
use Rattle.net_conf.specs.declared.site.SiteSession.{SiteSession}

-- the sessions are with one peer, both up or both down, and the same is set for both
abbrev pub same_session : SiteSession → SiteSession → Bool
same_session x y =
    same_addr x.peer y.peer && (same_number x.peer_asn y.peer_asn && (beq x.up y.up && (beq x.external y.external
    && (beq x.client y.client
    && (beq x.own_next y.own_next
    && (same_policy x.policy_in y.policy_in && same_policy x.policy_out y.policy_out))))))

-- the sites differ in the prefixes that they originate and in their costs alone
abbrev pub same_facts : SiteConf → SiteConf → Bool
same_facts s t =
    same_addr s.me t.me && (s.asn == t.asn && (same_addr s.cluster t.cluster && (beq s.reflector t.reflector
    && (beq s.med_always t.med_always && pointwise same_session s.sessions t.sessions))))

-- the site, with these originated prefixes and costs
abbrev pub with_facts_of : SiteConf → List Prefix → Reached → SiteConf
with_facts_of s origins costs = record s { origins = origins; costs = costs }
