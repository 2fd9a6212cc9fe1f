-- The NEXT_HOP of each route that comes over a session is its sender, its originator, or one of another AS.
use Rattle.std.proofs.Common.{◌≡◌, ◌⊎◌, inl, inr, ⊎_elim, Bool, true, false, not, Option, Some, None, option_map, unwrap_or, if◌then◌else◌, refl, sym, ap, subst, ◌∙◌}
use Rattle.std.proofs.lemmas.Bool.{true≢false}
use Rattle.std.proofs.lemmas.Option.{none-some, option_and_then_some}
use Rattle.net_prefix.specs.declared.addr.Addr.{Addr}
use Rattle.net_prefix.specs.Prefix.{Prefix}
use Rattle.path_attr.specs.declared.attr.Attr.{Attr}
use Rattle.path_attr.specs.Attribute.{same_maybe_addr}
use Rattle.path_attr.specs.Number.{same_number}
use Rattle.path_attr.specs.Path.{holds, neighbour}
use Rattle.route_policy.specs.declared.rule.Action.{Action}
use Rattle.net_conf.specs.declared.edit.Edit.{Edit}
use Rattle.net_conf.specs.declared.site.SiteConf.{SiteConf}
use Rattle.net_conf.specs.declared.tables.Node.{Node}
use Rattle.net_conf.specs.Configuration.{Configuration, node_at, has_node, has_session, as_of, is_external}
use Rattle.net_conf.specs.Edits.{edited}
use Rattle.net_conf.specs.Sites.{site_at, site_of}
use Rattle.route_select.specs.declared.candidate.Candidate.{Candidate}
use Rattle.route_select.specs.declared.candidate.Reason.{Reason}
use Rattle.route_select.specs.declared.candidate.Reason.TheVariants.{Loop, Originator}
use Rattle.route_select.specs.declared.candidate.Source.TheVariants.{Own}
use Rattle.route_select.specs.Selection.{best_of}
use Rattle.sim_event.specs.declared.event.FedRoute.{FedRoute}
use Rattle.reference_machine.specs.Network.{Network}
use Rattle.reference_machine.specs.Decision.{exclusion, standings, best}
use Rattle.reference_machine.specs.Machine.{fed_attr}
use Rattle.session_law.specs.RouteLaws.{originator, IsPutBy, HasNextHop, NextHopLaw, ComesBack, OwnNextHopLaw, NoLoopLaw}
use Rattle.session_law.proofs.Keys.{same_addr_itself}
use Rattle.session_law.proofs.Routes.{looked_up}
use Rattle.session_law.proofs.Configs.{Passes, external_kept, external_either, one_as, session_either, session_kept, there_still}
use Rattle.session_law.proofs.Chosen.{OwnOrReceived, choice_known}
use Rattle.session_law.proofs.Foreign.{ArePlaced}
use Rattle.session_law.proofs.Adverts.{GoesOut, IsOwn, ComesIn, IsReflected}
use Rattle.session_law.proofs.Carried.{AreEnds, IsKept, IsCarried, Received, carried_after, each_route}

-- THE NEXT_HOP OF EACH ROUTE

fed : (c : Configuration) (v t : Addr) (r : FedRoute) → AreEnds c v t → is_external c v t ≡ true →
    neighbour r.path ≡ as_of c v → HasNextHop c v t (fed_attr v r)
fed c v t r ends external first =
    record { outside = λ _. refl; inside = λ internal. absurd (true≢false (sym external ∙ internal)) }

put_still : (c : Configuration) (e : Edit) → Passes c e → ArePlaced c → (w to next : Addr) → has_node c to ≡ true →
    IsPutBy c w to next → IsPutBy (edited c e) w to next
put_still c e ok placed w to next there put =
    record {
      there = there_still c e ok w put.there;
      inside = external_kept c e ok w to put.there there ∙ put.inside;
      next_hop = ⊎_elim (λ itself. inl itself) (λ peer. inr (
        session_kept c e w next peer.0,
        external_kept c e ok w next put.there (placed next w (session_either c next w ∙ peer.0))
            ∙ peer.1,
      )) put.next_hop;
    }

after : (c : Configuration) (e : Edit) → Passes c e → ArePlaced c → (a b : Addr) (attr : Attr) → AreEnds c a b →
    HasNextHop c a b attr → HasNextHop (edited c e) a b attr
after c e ok placed a b attr ends has =
    let same = external_kept c e ok a b ends.sender ends.receiver in
    record {
      outside = λ external. has.outside (sym same ∙ external);
      inside = λ internal. put_still c e ok placed (originator a attr) b attr.next ends.receiver
          (has.inside (sym same ∙ internal));
    }

out : (c : Configuration) (r t : Addr) (n : Node) (attr : Attr) → node_at c r ≡ Some n → GoesOut c r t n attr →
    HasNextHop c r t attr
out c r t n attr here goes = record {
  outside = λ external. goes.next;
  inside = λ internal. absurd (true≢false (sym goes.outside ∙ internal));
}

-- a route without ORIGINATOR_ID has its sender for its originator
put_by_sender : (c : Configuration) (r t : Addr) (attr : Attr) → AreEnds c r t → is_external c r t ≡ false →
    attr.oid ≡ None → (attr.next ≡ r) ⊎ ((has_session c r attr.next ≡ true) × (is_external c r attr.next ≡ true)) →
    IsPutBy c (originator r attr) t attr.next
put_by_sender c r t attr ends inside none next =
    subst (λ w. IsPutBy c w t attr.next) (sym (ap (λ o. unwrap_or o r) none))
    (record { there = ends.sender; inside = inside; next_hop = next })

own : (c : Configuration) (r t : Addr) (attr : Attr) → AreEnds c r t → IsOwn c r t attr → HasNextHop c r t attr
own c r t attr ends is = record {
  outside = λ external. absurd (true≢false (sym external ∙ is.inside));
  inside = λ internal. put_by_sender c r t attr ends internal is.oid (inl is.next);
}

-- a route from another AS, as it enters
put_here : (c : Configuration) (r u : Addr) (old attr : Attr) → AreEnds c u r → is_external c r u ≡ true →
    old.next ≡ u → (attr.next ≡ r) ⊎ (attr.next ≡ old.next) → (attr.next ≡ r)
    ⊎ ((has_session c r attr.next ≡ true) × (is_external c r attr.next ≡ true))
put_here c r u old attr from external hop (inl itself) = inl itself
put_here c r u old attr from external hop (inr stays) =
    let peer : attr.next ≡ u = stays ∙ hop in
    inr (ap (has_session c r) peer ∙ session_either c r u ∙ from.session, ap (is_external c r) peer ∙ external)

entered : (c : Configuration) (r t u : Addr) (old attr : Attr) → AreEnds c r t → AreEnds c u r → HasNextHop c u r old →
    ComesIn c r t u old attr → HasNextHop c r t attr
entered c r t u old attr to from has is = record {
  outside = λ external. absurd (true≢false (sym external ∙ is.inside));
  inside = λ internal. put_by_sender c r t attr to internal is.oid
      (put_here c r u old attr from is.outside (has.outside (external_either c u r ∙ is.outside)) is.next);
}

-- a route is as it was put, for another router of the AS too
put_for : (c : Configuration) (w r t next : Addr) → is_external c r t ≡ false → IsPutBy c w r next → IsPutBy c w t next
put_for c w r t next internal put = record {
  there = put.there;
  inside = ap (λ n. not (same_number (as_of c w) n)) (sym (one_as c r t internal)) ∙ put.inside;
  next_hop = put.next_hop;
}

back : (c : Configuration) (r t u : Addr) (old attr : Attr) → AreEnds c r t → AreEnds c u r → HasNextHop c u r old →
    IsReflected c r t u old attr → HasNextHop c r t attr
back c r t u old attr to from has is = record {
  outside = λ external. absurd (true≢false (sym external ∙ is.inside));
  inside = λ internal.
      let put = put_for c (originator u old) r t old.next internal (has.inside (external_either c u r ∙ is.within)) in
      subst (λ w. IsPutBy c w t attr.next) (sym (ap (λ o. unwrap_or o r) is.oid))
      (subst (IsPutBy c (originator u old) t) (sym is.next) put);
}

next_hops_carried : IsKept HasNextHop
next_hops_carried = record { fed = fed; after = after; out = out; own = own; entered = entered; back = back }

pub next_hop_law : NextHopLaw
next_hop_law es rs s run = each_route HasNextHop (HasNextHop s.conf) s (λ a b attr ends has. has)
    (carried_after HasNextHop next_hops_carried es rs s run)

-- THE ROUTER ITSELF

originator_is : (o : Option Addr) (a b : Addr) → unwrap_or o a ≡ b → (a ≡ b → ⊥) → o ≡ Some b
originator_is None a b is apart = absurd (apart is)
originator_is (Some x) a b is apart = ap Some is

comes_back_by : (e : Bool) (c : Configuration) (a b : Addr) (attr : Attr) → is_external c a b ≡ e → AreEnds c a b →
    HasNextHop c a b attr → attr.next ≡ b → attr.oid ≡ Some b
comes_back_by true c a b attr is ends has next = absurd (ends.apart (sym (has.outside is) ∙ next))
comes_back_by false c a b attr is ends has next =
    let put = has.inside is in
    ⊎_elim (λ itself. originator_is attr.oid a b (sym itself ∙ next) ends.apart)
    (λ peer. absurd (true≢false (sym peer.1 ∙ ap (is_external c (originator a attr)) next ∙ put.inside)))
    put.next_hop

comes_back : (c : Configuration) (a b : Addr) (attr : Attr) → AreEnds c a b → HasNextHop c a b attr → ComesBack a b attr
comes_back c a b attr ends has = comes_back_by (is_external c a b) c a b attr refl ends has

pub own_next_hop_law : OwnNextHopLaw
own_next_hop_law es rs s run = each_route HasNextHop ComesBack s (comes_back s.conf)
    (carried_after HasNextHop next_hops_carried es rs s run)

-- THE CHOICE

excluded_by : (looped : Bool) (back : Bool) (o : Option Reason) → back ≡ true →
    (if looped then Some Loop else if back then Some Originator else o) ≡ None → ⊥
excluded_by true back o is none = cc
excluded_by false true o is none = cc
excluded_by false false o is none = true≢false (sym is)

-- a route with the router as ORIGINATOR_ID is excluded
excluded : (site : SiteConf) (action : Action) (attr : Attr) → attr.oid ≡ Some site.me →
    exclusion site action attr ≡ None → ⊥
excluded site action attr oid none =
    excluded_by (holds site.asn attr.path) (same_maybe_addr attr.oid (Some site.me))
    _ (ap (λ o. same_maybe_addr o (Some site.me)) oid ∙ same_addr_itself site.me) none

own_choice : (s : Network) (r : Addr) (p : Prefix) (n : Node) (b : Candidate) → IsCarried HasNextHop s →
    OwnOrReceived s.conf r n p s.received b → b.attr.next ≡ r → b.source ≡ Own
own_choice s r p n b carried (inl own) next = ap (λ x. x.source) own
own_choice s r p n b carried (inr got) next =
    let held = looked_up (Received HasNextHop s.conf) r got.peer p got.attr s.received carried.received got.route in
    let itself : got.attr.next ≡ r = ap (λ x. x.attr.next) (sym got.is) ∙ next in
    absurd (excluded (site_at s.conf r n) got.action got.attr
    (comes_back s.conf got.peer r got.attr held.0 held.1 itself) got.passed)

node_there : (c : Configuration) (r : Addr) (o : Option Node) (P : Type 0) → ((n : Node) → o ≡ Some n → P) →
    (site : SiteConf) → option_map (λ n. site_at c r n) o ≡ Some site → P
node_there c r None P go site is = absurd (none-some site is)
node_there c r (Some n) P go site is = go n refl

pub no_loop_law : NoLoopLaw
unfolding best site_of
no_loop_law es rs s run r p b is next =
    option_and_then_some (λ site. best_of (standings site p s.received)) (site_of s.conf r) b is (λ site in_site here.
    node_there s.conf r (node_at s.conf r) (b.source ≡ Own)
    (λ n node. own_choice s r p n b (carried_after HasNextHop next_hops_carried es rs s run)
    (choice_known s r p n b node is) next) site in_site)
