-- A link that is made or changed concerns those whose trees move, and the ends of the sessions that come up or go down.
use Rattle.std.proofs.Common.{◌≡◌, Bool, true, false, List, [], ◌∷◌, map, nat_le, Option, Some, None, is_some, if◌then◌else◌, refl, sym, ap, ◌∙◌, subst, ◌||◌, ◌&&◌, ◌==◌, ℕ, ◌<◌, length, get_or, option_map}
use Rattle.std.specs.List.{list_any}
use Rattle.std.specs.Map.{keys_of}
use Rattle.std.specs.BTreeMap.{is_at}
use Rattle.std.specs.Option.{unwrap_or}
use Rattle.std.specs.Cmp.{unsigned_ties}
use Rattle.std.proofs.lemmas.List.Folds.{list_any_at}
use Rattle.std.proofs.lemmas.Map.Made.{is_some-lookup}
use Rattle.net_prefix.specs.declared.addr.Addr.{Addr}
use Rattle.net_conf.specs.declared.site.SiteSession.{SiteSession}
use Rattle.net_conf.specs.declared.tables.Ends.{Ends}
use Rattle.net_conf.specs.declared.tables.Link.{Link as TheLink}
use Rattle.net_conf.specs.Configuration.{Configuration, as_of, ends_of, ends_cmp, is_end, is_external, has_link_up, session_between, ends_session, is_client, puts_itself, import_rules, export_rules}
use Rattle.igp_cost.specs.Trees.{cost_in}
use Rattle.net_conf.specs.Costs.{is_up, cost, costs_of, session_up, is_connected}
use Rattle.net_conf.specs.Edits.{with_link}
use Rattle.net_conf.specs.Sites.{peers_of, session_of}
use Rattle.net_conf.specs.Concerned.{StaysAt}
use Rattle.net_conf.specs.Kept.{IsLinked, AreLinked}
use Rattle.net_conf.proofs.Unseen.{lookup_with}
use Rattle.net_conf.proofs.Concerns.{facts_alike, up_turned, down_without}
use Rattle.net_conf.proofs.KeptTrees.{first_of_two, ends_turned, ends_exact, found_itself, or_right}

-- each session of the router stays up or down
abbrev pub StaysUp : Configuration → Configuration → Addr → Type 0
StaysUp c d r = (e : Ends) → is_end r e ≡ true → list_any (is_at (ends_cmp e)) (keys_of c.sessions) ≡ true →
    is_up d e.low e.high ≡ is_up c e.low e.high

module _ (c : Configuration) (a b : Addr) (link : TheLink) (r : Addr) where
  abbrev d : Configuration
  d = with_link c a b link

  up_at : StaysUp c d r → (u : Addr) → is_up d u r ≡ is_up c u r
  up_at stays u = by (session_between c u r) refl
    where
      turned : (le : Bool) (e : Ends) →
          e ≡ (if le then record { low = u; high = r } else record { low = r; high = u }) →
          is_up d e.low e.high ≡ is_up c e.low e.high → is_up d u r ≡ is_up c u r
      turned true e is same = ap (λ x. is_up d x.low x.high) (sym is) ∙ same ∙ ap (λ x. is_up c x.low x.high) is
      turned false e is same = up_turned d u r ∙ ap (λ x. is_up d x.low x.high) (sym is) ∙ same
          ∙ ap (λ x. is_up c x.low x.high) is ∙ up_turned c r u

      by : (o : Option Bool) → session_between c u r ≡ o → is_up d u r ≡ is_up c u r
      by None is = down_without d u r is ∙ sym (down_without c u r is)
      by (Some enabled) is =
          turned (nat_le u.0 r.0) (ends_of u r) refl
          (stays (ends_of u r) (ap (is_end r) (ends_turned u r) ∙ first_of_two r u)
          (sym (is_some-lookup (is_at (ends_cmp (ends_of u r))) c.sessions) ∙ ap is_some is))

  same_session : (u : Addr) → is_up d u r ≡ is_up c u r → session_of d r u ≡ session_of c r u
  same_session u same = ap session (up_turned d r u ∙ same ∙ up_turned c u r)
    where
      session : Bool → SiteSession
      session up = record {
        peer = u;
        peer_asn = as_of c u;
        up = up;
        external = is_external c r u;
        client = is_client c r u;
        own_next = puts_itself c r u;
        policy_in = import_rules c r u;
        policy_out = export_rules c r u;
      }

  each_session : ((u : Addr) → is_up d u r ≡ is_up c u r) → (us : List Addr) →
      map (session_of d r) us ≡ map (session_of c r) us
  each_session same [] = refl
  each_session same (u ∷ us) = λ i. same_session u (same u) i ∷ each_session same us i

  link_concerns : ((u : Addr) → is_up d u r ≡ is_up c u r) → (ends_session c r ≡ true → costs_of d r ≡ costs_of c r) →
      StaysAt c d r
  link_concerns same costs = record {
    facts = facts_alike c d r (record {
      node = refl;
      cluster = refl;
      reflector = refl;
      med_always = refl;
      origins = refl;
      sessions = each_session same (peers_of c r);
    });
    costs = costs;
    up = same;
  }

-- the same of any configuration that is this one with a link
pub concerns_of_link : (c d : Configuration) (a b : Addr) → IsLinked c d a b → (r : Addr) →
    ((u : Addr) → is_up d u r ≡ is_up c u r) → (ends_session c r ≡ true → costs_of d r ≡ costs_of c r) → StaysAt c d r
concerns_of_link c d a b linked r same costs =
    subst (λ x. StaysAt c x r) (sym linked.is)
    (link_concerns c a b linked.link r (subst (λ x. (u : Addr) → is_up x u r ≡ is_up c u r) linked.is same)
    (λ ends. ap (λ x. costs_of x r) (sym linked.is) ∙ costs ends))

pub stays_with_each : (c d : Configuration) (a b : Addr) → IsLinked c d a b → (r : Addr) → StaysUp c d r → (u : Addr) →
    is_up d u r ≡ is_up c u r
stays_with_each c d a b linked r stays u =
    ap (λ x. is_up x u r) linked.is ∙ up_at c a b linked.link r (subst (λ x. StaysUp c x r) linked.is stays) u

-- A SESSION APART FROM THE LINK

module _ (c : Configuration) (a b : Addr) (link : TheLink) (x y : Addr)
    (other : is_at (ends_cmp (ends_of x y)) (ends_of a b) ≡ false) where
  abbrev after : Configuration
  after = with_link c a b link

  connected_away : costs_of after x ≡ costs_of c x → costs_of after y ≡ costs_of c y →
      is_connected after x y ≡ is_connected c x y
  connected_away first second =
      ap (λ l. if is_external c x y then unwrap_or (option_map (λ (k : TheLink). k.up) l) false
      else (is_some (cost after x y) && is_some (cost after y x)))
      (lookup_with ends_cmp ends_exact (is_at (ends_cmp (ends_of x y))) (ends_of a b) other link c.links)
      ∙ ap (λ t. if is_external c x y then has_link_up c x y
      else (is_some (cost_in t y) && is_some (cost after y x))) first
      ∙ ap (λ t. if is_external c x y then has_link_up c x y
      else (is_some (cost c x y) && is_some (cost_in t x))) second

  up_away : costs_of after x ≡ costs_of c x → costs_of after y ≡ costs_of c y → is_up after x y ≡ is_up c x y
  unfolding session_up
  up_away first second = ap (λ t. unwrap_or (option_map (λ enabled. enabled && t) (session_between c x y)) false)
      (connected_away first second)

pub stays_away : (c d : Configuration) (e : Ends) → AreLinked c d e → (x y : Addr) →
    is_at (ends_cmp (ends_of x y)) e ≡ false → costs_of d x ≡ costs_of c x → costs_of d y ≡ costs_of c y →
    is_up d x y ≡ is_up c x y
stays_away c d e linked x y other first second =
    let is = linked.linked.is in
    subst (λ z. is_up z x y ≡ is_up c x y) (sym is)
    (up_away c linked.one linked.other linked.linked.link x y (ap (is_at (ends_cmp (ends_of x y))) (sym linked.ends)
    ∙ other) (ap (λ z. costs_of z x) (sym is) ∙ first) (ap (λ z. costs_of z y) (sym is) ∙ second))

-- the ends of a session of the list end a session
any_key_end : (r : Addr) (sessions : List (Ends × Bool)) →
    list_any (λ s. is_end r s.0) sessions ≡ list_any (is_end r) (keys_of sessions)
any_key_end r [] = refl
any_key_end r (s ∷ sessions) = ap (λ t. is_end r s.0 || t) (any_key_end r sessions)

same_number_itself : (a : Addr) → (a.0 == a.0) ≡ true
same_number_itself a = unsigned_ties a.0 a.0 ∙ found_itself a

pub low_ends : (c : Configuration) (i : ℕ) (d : Ends) → i < length (keys_of c.sessions) →
    ends_session c (get_or (keys_of c.sessions) i d).low ≡ true
low_ends c i d lt =
    let e = get_or (keys_of c.sessions) i d in
    any_key_end e.low c.sessions
    ∙ list_any_at (is_end e.low) (keys_of c.sessions) i d lt
    (ap (λ t. t || e.high.0 == e.low.0) (same_number_itself e.low))

pub high_ends : (c : Configuration) (i : ℕ) (d : Ends) → i < length (keys_of c.sessions) →
    ends_session c (get_or (keys_of c.sessions) i d).high ≡ true
high_ends c i d lt =
    let e = get_or (keys_of c.sessions) i d in
    any_key_end e.high c.sessions
    ∙ list_any_at (is_end e.high) (keys_of c.sessions) i d lt
    (or_right (e.low.0 == e.high.0) (same_number_itself e.high))
