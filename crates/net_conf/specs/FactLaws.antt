-- The test of the same facts tells exactly that. No public contract cites this file.
use Rattle.std.specs.Prelude.{◌≡◌, ℕ, Bool, true, ◌&&◌, ◌==◌, List, Option, Some, None, refl}
use Rattle.std.proofs.Common.{ap, sym, subst}
use Rattle.std.proofs.lemmas.Bool.{true≢false}
use Rattle.std.proofs.Math.Bool.{beq}
use Rattle.std.specs.Cmp.{unsigned_Decides, booleans_Decides, first_so, second_so}
use Rattle.std.specs.Cmp.Lexicographic.{pointwise}
use Rattle.net_prefix.specs.declared.addr.Addr.{Addr}
use Rattle.net_prefix.specs.Address.{same_addr}
use Rattle.net_prefix.specs.Prefix.{Prefix}
use Rattle.path_attr.specs.Number.{same_number}
use Rattle.path_attr.specs.Sameness.{IsExact, lists_exact}
use Rattle.route_policy.specs.Sameness.{same_policy}
use Rattle.route_policy.specs.SameLaws.{policies_exact}
use Rattle.igp_cost.specs.Trees.{Reached}
use Rattle.net_conf.specs.declared.site.SiteConf.{SiteConf}
use Rattle.net_conf.specs.declared.site.SiteSession.{SiteSession}
use Rattle.net_conf.specs.Facts.{same_session, same_facts, with_facts_of}

both_true : (p q : Bool) → p ≡ true → q ≡ true → (p && q) ≡ true
both_true p q h g = λ i. h i && g i

bool_itself : (b : Bool) → beq b b ≡ true
bool_itself b = (booleans_Decides b b).1 refl

addr_true : (a b : Addr) → same_addr a b ≡ true → a ≡ b
addr_true a b h = ap (λ n. record { 0 = n }) ((unsigned_Decides a.0 b.0).0 h)

number_itself : (n : ℕ) → (n == n) ≡ true
number_itself n = (unsigned_Decides n n).1 refl

maybe_number_true : (m n : Option ℕ) → same_number m n ≡ true → m ≡ n
maybe_number_true None None h = refl
maybe_number_true (Some m) (Some n) h = ap Some ((unsigned_Decides m n).0 h)
maybe_number_true None (Some n) h = absurd (true≢false (sym h))
maybe_number_true (Some m) None h = absurd (true≢false (sym h))

maybe_number_itself : (m : Option ℕ) → same_number m m ≡ true
maybe_number_itself None = refl
maybe_number_itself (Some m) = number_itself m

module _ (x y : SiteSession) (h : same_session x y ≡ true) where
  abbrev policies : Bool
  policies = same_policy x.policy_in y.policy_in && same_policy x.policy_out y.policy_out

  abbrev own : Bool
  own = beq x.own_next y.own_next && policies

  abbrev clients : Bool
  clients = beq x.client y.client && own

  abbrev externals : Bool
  externals = beq x.external y.external && clients

  abbrev ups : Bool
  ups = beq x.up y.up && externals

  abbrev numbers : Bool
  numbers = same_number x.peer_asn y.peer_asn && ups

  session_true : x ≡ y
  session_true =
      let after_peer = second_so (same_addr x.peer y.peer) numbers h in
      let after_number = second_so (same_number x.peer_asn y.peer_asn) ups after_peer in
      let after_up = second_so (beq x.up y.up) externals after_number in
      let after_external = second_so (beq x.external y.external) clients after_up in
      let after_client = second_so (beq x.client y.client) own after_external in
      let after_own = second_so (beq x.own_next y.own_next) policies after_client in
      let peer = addr_true x.peer y.peer (first_so (same_addr x.peer y.peer) numbers h) in
      let peer_asn = maybe_number_true x.peer_asn y.peer_asn
      (first_so (same_number x.peer_asn y.peer_asn) ups after_peer) in
      let up = (booleans_Decides x.up y.up).0 (first_so (beq x.up y.up) externals after_number) in
      let external = (booleans_Decides x.external y.external).0
      (first_so (beq x.external y.external) clients after_up) in
      let client = (booleans_Decides x.client y.client).0 (first_so (beq x.client y.client) own after_external) in
      let own_next = (booleans_Decides x.own_next y.own_next).0
      (first_so (beq x.own_next y.own_next) policies after_client) in
      let policy_in = (policies_exact x.policy_in y.policy_in).0
      (first_so (same_policy x.policy_in y.policy_in) (same_policy x.policy_out y.policy_out) after_own) in
      let policy_out = (policies_exact x.policy_out y.policy_out).0
      (second_so (same_policy x.policy_in y.policy_in) (same_policy x.policy_out y.policy_out) after_own) in
      λ i. record {
        peer = peer i;
        peer_asn = peer_asn i;
        up = up i;
        external = external i;
        client = client i;
        own_next = own_next i;
        policy_in = policy_in i;
        policy_out = policy_out i;
      }

session_itself : (x : SiteSession) → same_session x x ≡ true
session_itself x =
    both_true _ _ (number_itself x.peer.0)
    (both_true _ _ (maybe_number_itself x.peer_asn)
    (both_true _ _ (bool_itself x.up) (both_true _ _ (bool_itself x.external)
    (both_true _ _ (bool_itself x.client)
    (both_true _ _ (bool_itself x.own_next) (both_true _ _ ((policies_exact x.policy_in x.policy_in).1 refl)
    ((policies_exact x.policy_out x.policy_out).1 refl)))))))

sessions_exact : IsExact same_session
sessions_exact x y = (session_true x y, λ e. subst (λ z. same_session x z ≡ true) e (session_itself x))

-- sites with the same facts are one but for originated prefixes and costs
module _ (s t : SiteConf) (h : same_facts s t ≡ true) where
  abbrev sessions : Bool
  sessions = pointwise same_session s.sessions t.sessions

  abbrev comparisons : Bool
  comparisons = beq s.med_always t.med_always && sessions

  abbrev reflectors : Bool
  reflectors = beq s.reflector t.reflector && comparisons

  abbrev clusters : Bool
  clusters = same_addr s.cluster t.cluster && reflectors

  abbrev systems : Bool
  systems = (s.asn == t.asn) && clusters

  pub facts_exact : t ≡ with_facts_of s t.origins t.costs
  facts_exact =
      let after_me = second_so (same_addr s.me t.me) systems h in
      let after_asn = second_so (s.asn == t.asn) clusters after_me in
      let after_cluster = second_so (same_addr s.cluster t.cluster) reflectors after_asn in
      let after_reflector = second_so (beq s.reflector t.reflector) comparisons after_cluster in
      let me = sym (addr_true s.me t.me (first_so (same_addr s.me t.me) systems h)) in
      let asn = sym ((unsigned_Decides s.asn t.asn).0 (first_so (s.asn == t.asn) clusters after_me)) in
      let cluster = sym (addr_true s.cluster t.cluster
      (first_so (same_addr s.cluster t.cluster) reflectors after_asn)) in
      let reflector = sym ((booleans_Decides s.reflector t.reflector).0
      (first_so (beq s.reflector t.reflector) comparisons after_cluster)) in
      let med_always = sym ((booleans_Decides s.med_always t.med_always).0
      (first_so (beq s.med_always t.med_always) sessions after_reflector)) in
      let same = sym ((lists_exact sessions_exact s.sessions t.sessions).0
      (second_so (beq s.med_always t.med_always) sessions after_reflector)) in
      λ i. record {
        me = me i;
        asn = asn i;
        cluster = cluster i;
        reflector = reflector i;
        med_always = med_always i;
        origins = t.origins;
        sessions = same i;
        costs = t.costs;
      }

-- and a site has the same facts as itself with other originated prefixes and costs
pub facts_itself : (s : SiteConf) (origins : List Prefix) (costs : Reached) →
    same_facts s (with_facts_of s origins costs) ≡ true
facts_itself s origins costs =
    both_true _ _ (number_itself s.me.0)
    (both_true _ _ (number_itself s.asn)
    (both_true _ _ (number_itself s.cluster.0) (both_true _ _ (bool_itself s.reflector)
    (both_true _ _ (bool_itself s.med_always) ((lists_exact sessions_exact s.sessions s.sessions).1 refl)))))
