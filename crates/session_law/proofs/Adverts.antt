-- What is advertised: how its path, NEXT_HOP and ORIGINATOR_ID come from the router's own or from a route that it has
-- received.
use Rattle.std.proofs.Common.{◌≡◌, ◌⊎◌, inl, inr, ⊎_elim, ℕ, Bool, true, false, cond, ◌||◌, ◌==◌, List, [], ◌∷◌, map, find, Option, Some, None, option_map, option_and_then, unwrap_or, nat_lt, length, if◌then◌else◌, refl, sym, ap, ◌∙◌}
use Rattle.std.proofs.lemmas.Option.{none-some, same_Some, cond_some, option_and_then_some}
use Rattle.net_prefix.specs.declared.addr.Addr.{Addr}
use Rattle.net_prefix.specs.Prefix.{Prefix}
use Rattle.path_attr.specs.declared.attr.Attr.{Attr}
use Rattle.path_attr.specs.declared.path.TheConstants.{FULL_SEQUENCE}
use Rattle.path_attr.specs.declared.path.Segment.{Segment}
use Rattle.path_attr.specs.declared.path.Segment.TheVariants.{Seq as Sequence, Set}
use Rattle.path_attr.specs.Path.{neighbour, holds, prepended, prepended_times}
use Rattle.route_policy.specs.declared.rule.Action.{Action}
use Rattle.route_policy.specs.declared.rule.Action.TheVariants.{Deny, Permit}
use Rattle.route_policy.specs.declared.rule.Settings.{Settings}
use Rattle.route_policy.specs.Judging.{judged}
use Rattle.route_select.specs.declared.candidate.Source.{Source}
use Rattle.route_select.specs.declared.candidate.Source.TheVariants.{Own, Peer as FromPeer}
use Rattle.route_select.specs.declared.candidate.Candidate.{Candidate}
use Rattle.net_conf.specs.declared.site.SiteConf.{SiteConf}
use Rattle.net_conf.specs.declared.site.SiteSession.{SiteSession}
use Rattle.net_conf.specs.declared.tables.Node.{Node}
use Rattle.net_conf.specs.Configuration.{Configuration, node_at, as_of, is_external}
use Rattle.net_conf.specs.Costs.{is_up}
use Rattle.net_conf.specs.Sites.{site_at, site_of, session_of, session_with, peers_of}
use Rattle.reflect_out.specs.Advertising.{is_from, is_kept_back, is_client_of, to_other_as, to_own_as, reflected, reflected_to, inside, permitted, advertised_over, advert}
use Rattle.reference_machine.specs.declared.rows.RouteKey.{RouteKey}
use Rattle.reference_machine.specs.Network.{Network}
use Rattle.reference_machine.specs.Decision.{own_candidate, peer_candidate, route_from, best}
use Rattle.reference_machine.specs.Advertising.{advertised}
use Rattle.session_law.proofs.Keys.{same_addr_true}
use Rattle.session_law.proofs.Chosen.{IsReceived, OwnOrReceived, no_loop, choice_known}

-- WHAT A ROUTER ADVERTISES OF ITS CHOICE

module _ (site : SiteConf) (to : SiteSession) (b : Candidate) (attr : Attr) where
  -- inside the AS, an internal peer's route
  abbrev Reflects : Type 0
  Reflects = (u : Addr) × (b.source ≡ FromPeer u) × (attr ≡ reflected site u b.attr)

  -- inside the AS
  abbrev Inside : Type 0
  Inside = ((b.external ≡ true) × (attr ≡ to_own_as site to b)) ⊎ ((b.external ≡ false) × Reflects)

  -- towards another AS, or inside the own
  abbrev IsAdvert : Type 0
  IsAdvert = ((to.external ≡ true) × ((s : Settings) × (attr ≡ to_other_as site s b.attr)))
      ⊎ ((to.external ≡ false) × Inside)

  reflected_is : (q : Source) → b.source ≡ q → reflected_to site to b q ≡ Some attr → Reflects
  reflected_is Own from is = absurd (none-some attr is)
  reflected_is (FromPeer u) from is =
      (u, from, sym (cond_some (is_client_of site u || to.client) (reflected site u b.attr) attr is).1)

  inside_is : (e : Bool) → b.external ≡ e → (if e then Some (to_own_as site to b) else reflected_to site to b b.source)
      ≡ Some attr → Inside
  inside_is true ext is = inl (ext, sym (same_Some (to_own_as site to b) attr is))
  inside_is false ext is = inr (ext, reflected_is b.source refl is)

  advert_by : (e : Bool) (s : Settings) → to.external ≡ e →
      (if e then Some (to_other_as site s b.attr) else inside site to b) ≡ Some attr → IsAdvert
  advert_by true s ext is = inl (ext, (s, sym (same_Some (to_other_as site s b.attr) attr is)))
  advert_by false s ext is = inr (ext, inside_is b.external refl is)

  permitted_is : (action : Action) → permitted site to b action ≡ Some attr → IsAdvert
  permitted_is Deny is = absurd (none-some attr is)
  permitted_is (Permit s) is = advert_by to.external s refl is

unless : (b : Bool) (o : Option Attr) (attr : Attr) → (if b then None else o) ≡ Some attr → o ≡ Some attr
unless true o attr is = absurd (none-some attr is)
unless false o attr is = is

when : (b : Bool) (o : Option Attr) (attr : Attr) → (if b then o else None) ≡ Some attr → o ≡ Some attr
when true o attr is = is
when false o attr is = absurd (none-some attr is)

found_by : (b : Bool) (c : Configuration) (r t u : Addr) (x : SiteSession) (later : Option SiteSession) →
    (u.0 == t.0) ≡ b → (later ≡ Some x → x ≡ session_of c r t) → cond b (Some (session_of c r u)) later ≡ Some x →
    x ≡ session_of c r t
found_by true c r t u x later same there is = sym (same_Some (session_of c r u) x is)
    ∙ ap (session_of c r) (same_addr_true u t same)
found_by false c r t u x later same there is = there is

-- a router's session with a peer, in its list
found_session : (c : Configuration) (r t : Addr) (us : List Addr) (x : SiteSession) →
    find (λ y. y.peer.0 == t.0) (map (session_of c r) us) ≡ Some x → x ≡ session_of c r t
found_session c r t [] x is = absurd (none-some x is)
found_session c r t (u ∷ us) x is =
    found_by (u.0 == t.0) c r t u x (find (λ y. y.peer.0 == t.0) (map (session_of c r) us)) refl
    (found_session c r t us x) is

-- what is advertised is an advert of the router's choice
advert_is : (c : Configuration) (r t : Addr) (n : Node) (p : Prefix) (b : Candidate) (attr : Attr) →
    advert (site_at c r n) p b t ≡ Some attr → IsAdvert (site_at c r n) (session_of c r t) b attr
unfolding advert
advert_is c r t n p b attr is =
    let site = site_at c r n in
    let over = unless (is_from t b.source) (option_and_then (advertised_over site p b) (session_with site t)) attr is in
    option_and_then_some (advertised_over site p b) (session_with site t) attr over (λ x found sent.
    let it = found_session c r t (peers_of c r) x found in
    let sent_there : advertised_over site p b (session_of c r t) ≡ Some attr = ap (advertised_over site p b) (sym it)
    ∙ sent in
    let to = session_of c r t in
    let may = unless (is_kept_back to.external b.attr.comms)
    (permitted site to b (judged to.policy_out p b.attr)) attr sent_there in
    permitted_is site to b attr (judged to.policy_out p b.attr) may)

-- HOW IT COMES ABOUT

-- towards another AS: the own AS in front, and the router as NEXT_HOP
pub record GoesOut (c : Configuration) (r t : Addr) (n : Node) (attr : Attr) : Type 0 where
  pub outside : is_external c r t ≡ true
  pub path : neighbour attr.path ≡ Some n.asn
  pub next : attr.next ≡ r
  pub oid : attr.oid ≡ None

-- inside the AS, the router's own
pub record IsOwn (c : Configuration) (r t : Addr) (attr : Attr) : Type 0 where
  pub inside : is_external c r t ≡ false
  pub path : attr.path ≡ []
  pub next : attr.next ≡ r
  pub oid : attr.oid ≡ None

-- inside the AS, what it has received from another AS
pub record ComesIn (c : Configuration) (r t u : Addr) (old attr : Attr) : Type 0 where
  pub inside : is_external c r t ≡ false
  pub outside : is_external c r u ≡ true
  pub clear : (m : ℕ) → as_of c r ≡ Some m → holds m old.path ≡ false
  pub path : attr.path ≡ old.path
  pub next : (attr.next ≡ r) ⊎ (attr.next ≡ old.next)
  pub oid : attr.oid ≡ None

-- inside the AS, what it has received there
pub record IsReflected (c : Configuration) (r t u : Addr) (old attr : Attr) : Type 0 where
  pub inside : is_external c r t ≡ false
  pub within : is_external c r u ≡ false
  pub path : attr.path ≡ old.path
  pub next : attr.next ≡ old.next
  pub oid : attr.oid ≡ Some (unwrap_or old.oid u)

module _ (c : Configuration) (r t : Addr) (n : Node) (p : Prefix) (es : List (RouteKey × Attr)) (attr : Attr) where
  -- of a route that the router has received from a peer
  abbrev pub IsOfReceived : Type 0
  IsOfReceived = (u : Addr) × (old : Attr) × (route_from es r p u ≡ Some old)
      × (ComesIn c r t u old attr ⊎ IsReflected c r t u old attr)

  -- the four ways
  abbrev pub ComesAbout : Type 0
  ComesAbout = GoesOut c r t n attr ⊎ (IsOwn c r t attr ⊎ IsOfReceived)

begins : (n : ℕ) (ss : List Segment) → neighbour (prepended n ss) ≡ Some n
begins n [] = refl
begins n (Sequence ns ∷ ss) =
    elim (nat_lt (length ns) FULL_SEQUENCE) as (λ b. neighbour (if b then Sequence (n ∷ ns) ∷ ss
    else Sequence (n ∷ []) ∷ (Sequence ns ∷ ss)) ≡ Some n) [ true ↦ refl | false ↦ refl ]
begins n (Set ns ∷ ss) = refl

either_hop : (b : Bool) (r x : Addr) → ((if b then r else x) ≡ r) ⊎ ((if b then r else x) ≡ x)
either_hop true r x = inl refl
either_hop false r x = inr refl

one_hop : (b : Bool) (r : Addr) → (if b then r else r) ≡ r
one_hop true r = refl
one_hop false r = refl

same_peer : (u v : Addr) → FromPeer u ≡ FromPeer v → u ≡ v
same_peer u v e = cc

own_source : (v : Addr) → Own ≡ FromPeer v → ⊥
own_source v e = cc

module _ (c : Configuration) (r t : Addr) (n : Node) (p : Prefix) (es : List (RouteKey × Attr)) (attr : Attr) where
  abbrev site : SiteConf
  site = site_at c r n

  abbrev to : SiteSession
  to = session_of c r t

  goes_out : (s : Settings) (old : Attr) → is_external c r t ≡ true → attr ≡ to_other_as site s old →
      GoesOut c r t n attr
  goes_out s old outside is = record {
    outside = outside;
    path = ap (λ a. neighbour a.path) is ∙ begins n.asn (prepended_times (unwrap_or s.prepend 0) n.asn old.path);
    next = ap (λ a. a.next) is;
    oid = ap (λ a. a.oid) is;
  }

  own_inside : (b : Candidate) → is_external c r t ≡ false → b ≡ own_candidate r →
      attr ≡ to_own_as site to b → IsOwn c r t attr
  own_inside b inside own is =
      let it : attr ≡ to_own_as site to (own_candidate r) = is ∙ ap (to_own_as site to) own in
      record {
        inside = inside;
        path = ap (λ a. a.path) it;
        next = ap (λ a. a.next) it ∙ one_hop to.own_next r;
        oid = ap (λ a. a.oid) it;
      }

  module _ (here : node_at c r ≡ Some n) (b : Candidate) (inside : is_external c r t ≡ false)
      (got : IsReceived c r n p es b) where
    abbrev from : Candidate
    from = peer_candidate site (session_of c r got.peer) got.action got.attr

    -- its path does not hold the router's AS
    not_looped : (m : ℕ) → as_of c r ≡ Some m → holds m got.attr.path ≡ false
    not_looped m is =
        let asn : n.asn ≡ m = same_Some n.asn m (sym (ap (option_map (λ x. x.asn)) here) ∙ is) in
        ap (λ k. holds k got.attr.path) (sym asn) ∙ no_loop site got.action got.attr got.passed

    comes_in : b.external ≡ true → attr ≡ to_own_as site to b → IsOfReceived c r t n p es attr
    comes_in external is =
        let it : attr ≡ to_own_as site to from = is ∙ ap (to_own_as site to) got.is in
        let next : attr.next ≡ (if to.own_next then r else got.attr.next) = ap (λ a. a.next) it in (
          got.peer,
          got.attr,
          got.route,
          inl (record {
            inside = inside;
            outside = ap (λ x. x.external) (sym got.is) ∙ external;
            clear = not_looped;
            path = ap (λ a. a.path) it;
            next = ⊎_elim (λ e. inl (next ∙ e)) (λ e. inr (next ∙ e)) (either_hop to.own_next r got.attr.next);
            oid = ap (λ a. a.oid) it;
          }),
        )

    passes_on : (u : Addr) → b.external ≡ false → b.source ≡ FromPeer u → attr ≡ reflected site u b.attr →
        IsOfReceived c r t n p es attr
    passes_on u internal from_u is =
        let peer : got.peer ≡ u = same_peer got.peer u (ap (λ x. x.source) (sym got.is) ∙ from_u) in
        let it : attr ≡ reflected site got.peer from.attr = is ∙ (λ i. reflected site (sym peer i) (got.is i).attr) in (
          got.peer,
          got.attr,
          got.route,
          inr (record {
            inside = inside;
            within = ap (λ x. x.external) (sym got.is) ∙ internal;
            path = ap (λ a. a.path) it;
            next = ap (λ a. a.next) it;
            oid = ap (λ a. a.oid) it;
          }),
        )

    of_received : Inside site to b attr → IsOfReceived c r t n p es attr
    of_received (inl own) = comes_in own.0 own.1
    of_received (inr other) = passes_on other.1.0 other.0 other.1.1 other.1.2

  of_own : (b : Candidate) → is_external c r t ≡ false → b ≡ own_candidate r → Inside site to b attr → IsOwn c r t attr
  of_own b inside own (inl is) = own_inside b inside own is.1
  of_own b inside own (inr other) = absurd (own_source other.1.0 (ap (λ x. x.source) (sym own) ∙ other.1.1))

  of_choice : (b : Candidate) → node_at c r ≡ Some n → is_external c r t ≡ false → Inside site to b attr →
      OwnOrReceived c r n p es b → ComesAbout c r t n p es attr
  of_choice b here inside is (inl own) = inr (inl (of_own b inside own is))
  of_choice b here inside is (inr got) = inr (inr (of_received here b inside got is))

  comes_by : (b : Candidate) → node_at c r ≡ Some n → OwnOrReceived c r n p es b → IsAdvert site to b attr →
      ComesAbout c r t n p es attr
  comes_by b here choice (inl out) = inl (goes_out out.1.0 b.attr out.0 out.1.1)
  comes_by b here choice (inr within) = of_choice b here within.0 within.1 choice

-- what a router advertises comes about in one of the four ways
pub comes_about : (s : Network) (r t : Addr) (p : Prefix) (n : Node) (attr : Attr) → node_at s.conf r ≡ Some n →
    advertised s r t p ≡ Some attr → ComesAbout s.conf r t n p s.received attr
unfolding advertised site_of
comes_about s r t p n attr here is =
    let site = site_at s.conf r n in
    let chosen = when (is_up s.conf r t)
    (option_and_then (λ b. option_and_then (λ x. advert x p b t) (site_of s.conf r)) (best s r p)) attr is in
    option_and_then_some (λ b. option_and_then (λ x. advert x p b t) (site_of s.conf r))
    (best s r p) attr chosen (λ b best_is sent.
    let there : site_of s.conf r ≡ Some site = ap (option_map (λ x. site_at s.conf r x)) here in
    let sent_there : advert site p b t ≡ Some attr = ap (option_and_then (λ x. advert x p b t)) (sym there) ∙ sent in
    comes_by s.conf r t n p s.received attr b here (choice_known s r p n b here best_is)
    (advert_is s.conf r t n p b attr sent_there))
