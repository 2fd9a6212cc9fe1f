-- A session that is made or changed concerns its ends alone.
use Rattle.std.proofs.Common.{◌≡◌, Bool, true, false, cond, ◌&&◌, ◌||◌, List, [], ◌∷◌, map, filter, option_map, refl, sym, ap, ◌∙◌}
use Rattle.std.specs.Option.{unwrap_or}
use Rattle.std.specs.BTreeMap.{is_at}
use Rattle.std.proofs.lemmas.Bool.{true≢false}
use Rattle.net_prefix.specs.declared.addr.Addr.{Addr}
use Rattle.net_prefix.specs.Address.{addr_cmp}
use Rattle.net_conf.specs.declared.site.SiteSession.{SiteSession}
use Rattle.net_conf.specs.declared.tables.Ends.{Ends}
use Rattle.net_conf.specs.Configuration.{Configuration, as_of, ends_of, ends_cmp, is_end, is_external, session_between, is_client, puts_itself, import_rules, export_rules}
use Rattle.net_conf.specs.Costs.{session_up, is_up, is_connected}
use Rattle.net_conf.specs.Edits.{with_session}
use Rattle.net_conf.specs.Sites.{peer_in, peers_of, session_of}
use Rattle.net_conf.specs.Concerned.{StaysAt}
use Rattle.net_conf.proofs.Concerns.{facts_alike, up_turned}
use Rattle.net_conf.proofs.KeptTrees.{ends_exact, same_ends, end_of_two, first_of_two}
use Rattle.net_conf.proofs.Unseen.{entry_put_in, lookup_with}

module _ (c : Configuration) (a b r : Addr) (on : Bool) (first : is_at (addr_cmp r) a ≡ false)
    (second : is_at (addr_cmp r) b ≡ false) where
  abbrev d : Configuration
  d = with_session c a b on

  no_end : is_end r (ends_of a b) ≡ false
  no_end = end_of_two r a b ∙ (λ i. first i || second i)

  -- sessions of the router are other ones
  other_ends : (u : Addr) → is_at (ends_cmp (ends_of r u)) (ends_of a b) ≡ false
  other_ends u = by (is_at (ends_cmp (ends_of r u)) (ends_of a b)) refl
    where
      by : (t : Bool) → is_at (ends_cmp (ends_of r u)) (ends_of a b) ≡ t → t ≡ false
      by true is = absurd (true≢false (sym (first_of_two r u) ∙ ap (is_end r) (same_ends (ends_of r u) (ends_of a b) is)
          ∙ no_end))
      by false is = refl

  same_between : (u : Addr) → session_between d r u ≡ session_between c r u
  same_between u = lookup_with ends_cmp ends_exact (is_at (ends_cmp (ends_of r u))) (ends_of a b)
      (other_ends u) on c.sessions

  same_up : (u : Addr) → is_up d r u ≡ is_up c r u
  unfolding session_up
  same_up u = ap (λ o. unwrap_or (option_map (λ enabled. enabled && is_connected c r u) o) false) (same_between u)

  abbrev own : List (Ends × Bool) → List (Ends × Bool)
  own sessions = filter (λ e. is_end r e.0) sessions

  own_step : (e : Ends × Bool) (xs ys : List (Ends × Bool)) → own xs ≡ own ys → own (e ∷ xs) ≡ own (e ∷ ys)
  own_step e xs ys same = ap (λ zs. cond (is_end r e.0) (e ∷ zs) zs) same

  own_unseen : (v : Bool) (es : List (Ends × Bool)) → own ((ends_of a b, v) ∷ es) ≡ own es
  own_unseen v es = ap (λ t. cond t ((ends_of a b, v) ∷ own es) (own es)) no_end

  same_peers : peers_of d r ≡ peers_of c r
  same_peers = ap (map (λ e. peer_in r e.0))
      (entry_put_in own own_step ends_cmp (ends_of a b) on ends_exact own_unseen c.sessions)

  same_session : (u : Addr) → session_of d r u ≡ session_of c r u
  same_session u = ap (λ (up : Bool). session up) (same_up u)
    where
      session : Bool → SiteSession
      session up = record {
        peer = u;
        peer_asn = as_of c u;
        up = up;
        external = is_external c r u;
        client = is_client c r u;
        own_next = puts_itself c r u;
        policy_in = import_rules c r u;
        policy_out = export_rules c r u;
      }

  each_session : (us : List Addr) → map (session_of d r) us ≡ map (session_of c r) us
  each_session [] = refl
  each_session (u ∷ us) = λ i. same_session u i ∷ each_session us i

  pub session_concerns : StaysAt c d r
  session_concerns = record {
    facts = facts_alike c d r (record {
      node = refl;
      cluster = refl;
      reflector = refl;
      med_always = refl;
      origins = refl;
      sessions = each_session (peers_of d r) ∙ ap (map (session_of c r)) same_peers;
    });
    costs = λ ends. refl;
    up = λ u. up_turned d u r ∙ same_up u ∙ up_turned c r u;
  }
