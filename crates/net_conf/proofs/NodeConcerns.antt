-- A node that is added concerns nobody else.
use Rattle.std.proofs.Common.{◌≡◌, ℕ, Bool, true, false, cond, not, ◌==◌, ◌&&◌, List, [], ◌∷◌, map, filter, Option, Some, None, All, option_map, is_some, if◌then◌else◌, refl, sym, ap, ◌∙◌}
use Rattle.std.specs.Option.{unwrap_or}
use Rattle.std.specs.List.Sorted.{IsStrictlySortedBy}
use Rattle.std.specs.Map.{keys_of}
use Rattle.std.specs.BTreeMap.{insert_entry, is_at}
use Rattle.std.proofs.lemmas.Bool.{true≢false}
use Rattle.std.proofs.lemmas.List.Elements.{All-head, All-tail}
use Rattle.net_prefix.specs.declared.addr.Addr.{Addr}
use Rattle.net_prefix.specs.Address.{addr_cmp}
use Rattle.net_prefix.specs.Orders.{addr_exact}
use Rattle.igp_cost.specs.Laws.{LoneNodeMovesNoTree}
use Rattle.path_attr.specs.Number.{same_number}
use Rattle.net_conf.specs.declared.site.SiteSession.{SiteSession}
use Rattle.net_conf.specs.declared.tables.Ends.{Ends}
use Rattle.net_conf.specs.declared.tables.Node.{Node}
use Rattle.net_conf.specs.Configuration.{Configuration, node_at, has_node, as_of, is_end, is_external, has_link_up, session_between, has_session, is_client, puts_itself, import_rules, export_rules}
use Rattle.net_conf.specs.Configured.{HasEnds}
use Rattle.net_conf.specs.Costs.{cost, session_up, is_up, is_connected}
use Rattle.igp_cost.specs.Trees.{cost_in}
use Rattle.net_conf.specs.Sites.{peer_in, session_of}
use Rattle.net_conf.specs.Concerned.{StaysAt}
use Rattle.net_conf.specs.Kept.{IsSound}
use Rattle.net_conf.proofs.Concerns.{facts_alike}
use Rattle.net_conf.proofs.KeptTrees.{equal_when, end_node, session_ends, session_turned}
use Rattle.net_conf.proofs.TreesAfter.{costs_with_node}
use Rattle.net_conf.proofs.Unseen.{lookup_with}

module _ (law : LoneNodeMovesNoTree) (c : Configuration) (a : Addr) (n : Node) (sound : IsSound c)
    (sorted : IsStrictlySortedBy addr_cmp (keys_of c.nodes)) (new : has_node c a ≡ false) where
  abbrev d : Configuration
  d = record c { nodes = insert_entry addr_cmp c.nodes a n }

  -- who is there is not the new one
  apart : (u : Addr) → has_node c u ≡ true → is_at (addr_cmp u) a ≡ false
  apart u there = by (is_at (addr_cmp u) a) refl
    where
      by : (t : Bool) → is_at (addr_cmp u) a ≡ t → t ≡ false
      by true is = absurd (true≢false (sym there ∙ ap (has_node c) (addr_exact u a (equal_when (addr_cmp u a) is))
          ∙ new))
      by false is = refl

  same_node : (u : Addr) → is_at (addr_cmp u) a ≡ false → node_at d u ≡ node_at c u
  same_node u other = lookup_with addr_cmp addr_exact (is_at (addr_cmp u)) a other n c.nodes

  same_as : (u : Addr) → is_at (addr_cmp u) a ≡ false → as_of d u ≡ as_of c u
  same_as u other = ap (option_map (λ (x : Node). x.asn)) (same_node u other)

  same_external : (u v : Addr) → is_at (addr_cmp u) a ≡ false → is_at (addr_cmp v) a ≡ false →
      is_external d u v ≡ is_external c u v
  same_external u v first second = λ i. not (same_number (same_as u first i) (same_as v second i))

  same_connected : (u v : Addr) → has_node c u ≡ true → has_node c v ≡ true → is_connected d u v ≡ is_connected c u v
  same_connected u v first second =
      ap (λ x. if x then has_link_up c u v else (is_some (cost d u v) && is_some (cost d v u)))
      (same_external u v (apart u first) (apart v second))
      ∙ ap (λ x. if is_external c u v then has_link_up c u v else (is_some (cost_in x v) && is_some (cost d v u)))
      (costs_with_node law c a n sound sorted new u first)
      ∙ ap (λ x. if is_external c u v then has_link_up c u v else (is_some (cost c u v) && is_some (cost_in x u)))
      (costs_with_node law c a n sound sorted new v second)

  pub same_up : (u v : Addr) → is_up d u v ≡ is_up c u v
  unfolding session_up
  same_up u v = by (session_between c u v) refl
    where
      by : (o : Option Bool) → session_between c u v ≡ o →
          unwrap_or (option_map (λ enabled. enabled && is_connected d u v) (session_between c u v)) false
          ≡ unwrap_or (option_map (λ enabled. enabled && is_connected c u v) (session_between c u v)) false
      by None is =
          ap (λ x. unwrap_or (option_map (λ enabled. enabled && is_connected d u v) x) false) is
          ∙ sym (ap (λ x. unwrap_or (option_map (λ enabled. enabled && is_connected c u v) x) false) is)
      by (Some on) is =
          let there : has_session c u v ≡ true = ap is_some is in
          let first : has_node c u ≡ true = end_node c u sound (session_ends c u v there) in
          let second : has_node c v ≡ true = end_node c v sound (session_ends c v u (session_turned c u v there)) in
          ap (λ x. unwrap_or (option_map (λ enabled. enabled && x) (session_between c u v)) false)
          (same_connected u v first second)

  module _ (r : Addr) (other : is_at (addr_cmp r) a ≡ false) where
    same_session : (u : Addr) → has_node c u ≡ true → session_of d r u ≡ session_of c r u
    same_session u there =
        let session : Option ℕ → Bool → Bool → SiteSession = λ asn up external. record {
          peer = u;
          peer_asn = asn;
          up = up;
          external = external;
          client = is_client c r u;
          own_next = puts_itself c r u;
          policy_in = import_rules c r u;
          policy_out = export_rules c r u;
        } in
        λ i. session (same_as u (apart u there) i) (same_up r u i) (same_external r u other (apart u there) i)

    peer_there : (e : Ends) → HasEnds c e → has_node c (peer_in r e) ≡ true
    peer_there e has = by (e.low.0 == r.0)
      where
        by : (low : Bool) → has_node c (if low then e.high else e.low) ≡ true
        by true = has.1
        by false = has.0

    each_session : (sessions : List (Ends × Bool)) → All (HasEnds c) (keys_of sessions) →
        map (session_of d r) (map (λ e. peer_in r e.0) (filter (λ e. is_end r e.0) sessions))
        ≡ map (session_of c r) (map (λ e. peer_in r e.0) (filter (λ e. is_end r e.0) sessions))
    each_session [] all = refl
    each_session (s ∷ sessions) all =
        by (is_end r s.0) (each_session sessions (All-tail (HasEnds c) s.0 (keys_of sessions) all))
      where
        by : (t : Bool) → map (session_of d r) (map (λ e. peer_in r e.0) (filter (λ e. is_end r e.0) sessions))
            ≡ map (session_of c r) (map (λ e. peer_in r e.0) (filter (λ e. is_end r e.0) sessions)) →
            map (session_of d r) (map (λ e. peer_in r e.0)
            (cond t (s ∷ filter (λ e. is_end r e.0) sessions) (filter (λ e. is_end r e.0) sessions)))
            ≡ map (session_of c r) (map (λ e. peer_in r e.0)
            (cond t (s ∷ filter (λ e. is_end r e.0) sessions) (filter (λ e. is_end r e.0) sessions)))
        by true later = λ i. same_session (peer_in r s.0)
            (peer_there s.0 (All-head (HasEnds c) s.0 (keys_of sessions) all)) i ∷ later i
        by false later = later

    pub node_concerns : StaysAt c d r
    node_concerns = record {
      facts = facts_alike c d r (record {
        node = same_node r other;
        cluster = refl;
        reflector = refl;
        med_always = refl;
        origins = refl;
        sessions = each_session c.sessions sound.sessions;
      });
      costs = λ ends. costs_with_node law c a n sound sorted new r (end_node c r sound ends);
      up = λ u. same_up u r;
    }
