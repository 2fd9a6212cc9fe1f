-- A trace: no router forwards twice, so that its looks are enough, and it follows them.
use Rattle.std.proofs.Common.{◌≡◌, ℕ, zero, suc, ◌+◌, ◌-◌, ◌<◌, ◌≤◌, Bool, true, false, ◌||◌, List, [], ◌∷◌, ◌++◌, map, length, Option, Some, None, option_map, option_and_then, is_some, if◌then◌else◌, refl, sym, ap, subst, ◌∙◌, arith, append_assoc, append-nil, length-append}
use Rattle.std.specs.List.{list_any, IsDistinct}
use Rattle.std.specs.Ordering.{eq_by_cmp}
use Rattle.std.specs.Cmp.{IsEquivalence, unsigned_ties, unsigned_Decides}
use Rattle.std.proofs.lemmas.Bool.{true≢false}
use Rattle.std.proofs.lemmas.Cmp.{eq_by_cmp_equiv}
use Rattle.std.proofs.lemmas.List.{map-append, length-map}
use Rattle.std.proofs.lemmas.List.Folds.{list_any-append}
use Rattle.std.proofs.lemmas.Map.Keys.{IsDistinct-push}
use Rattle.std.proofs.lemmas.Map.Steps.{length-le_from_keys}
use Rattle.net_prefix.specs.declared.addr.Addr.{Addr}
use Rattle.net_prefix.specs.Address.{addr_cmp}
use Rattle.net_prefix.specs.Prefix.{Prefix}
use Rattle.net_prefix.specs.Orders.{addr_total}
use Rattle.igp_cost.specs.Trees.{Reached as Costs}
use Rattle.net_conf.specs.Configuration.{node_at, has_node, is_virtual, cluster_id, is_reflector, compares_all_meds, origins_of}
use Rattle.net_conf.specs.Costs.{costs_of}
use Rattle.net_conf.specs.Sites.{site_of, sessions_of}
use Rattle.route_select.specs.declared.candidate.Candidate.{Candidate}
use Rattle.route_select.specs.Selection.{best_of}
use Rattle.sim_event.specs.declared.reply.TraceEnd.{TraceEnd}
use Rattle.sim_event.specs.declared.reply.TraceEnd.TheVariants.{Reached, Loop}
use Rattle.reference_machine.specs.declared.tracing.Look.{Look}
use Rattle.reference_machine.specs.declared.tracing.Look.TheVariants.{Ends, Forwards}
use Rattle.reference_machine.specs.declared.tracing.Traced.{Traced}
use Rattle.reference_machine.specs.Network.{Network}
use Rattle.reference_machine.specs.Decision.{best, standings}
use Rattle.reference_machine.specs.Tracing.{has_passed, by_route, by_prefix, longest_match, look, ended, after_look, trace_from, trace, IsTrace, TraceLaw, OneTraceLaw}

-- WHO FORWARDS

-- the two addresses are one
abbrev same : Addr → Addr → Bool
same = eq_by_cmp addr_cmp

same_laws : IsEquivalence same
same_laws = eq_by_cmp_equiv addr_total

same_true : (a b : Addr) → same a b ≡ true → a ≡ b
same_true a b h = ap (λ n. record { 0 = n }) ((unsigned_Decides a.0 b.0).0 (unsigned_ties a.0 b.0 ∙ h))

abbrev routers : List (Addr × Prefix) → List Addr
routers hops = map (λ h. h.0) hops

-- the routers that have forwarded: none of them twice, and each is there
pub record HaveForwarded (s : Network) (hops : List (Addr × Prefix)) : Type 0 where
  pub once : IsDistinct same (routers hops)
  pub there : (q : Addr) → list_any (same q) (routers hops) ≡ true → has_node s.conf q ≡ true

pub none_have : (s : Network) → HaveForwarded s []
unfolding IsDistinct
none_have s = record { once = tt; there = λ q h. absurd (true≢false (sym h)) }

-- so they are at most as many as there are
pub few_have : (s : Network) (hops : List (Addr × Prefix)) → HaveForwarded s hops → length hops ≤ length s.conf.nodes
few_have s hops have =
    subst (λ n. n ≤ length s.conf.nodes) (length-map hops (λ h. h.0))
    (length-le_from_keys same_laws (routers hops) s.conf.nodes have.once have.there)

passed_are_routers : (r : Addr) (hops : List (Addr × Prefix)) → has_passed r hops ≡ list_any (same r) (routers hops)
passed_are_routers r [] = refl
passed_are_routers r (h ∷ hops) = ap (λ b. b || has_passed r hops) (unsigned_ties h.0.0 r.0 ∙ same_laws.symm h.0 r)
    ∙ ap (λ b. same r h.0 || b) (passed_are_routers r hops)

-- WHAT A FORWARDING ROUTER IS

ends_not : (e : TraceEnd) (p : Prefix) (h : Addr) → Ends e ≡ Forwards p h → ⊥
ends_not e p h is = cc

looked_by : (passed reached : Bool) (r : Addr) (x : Look) (p : Prefix) (h : Addr) →
    (if passed then Ends (Loop r) else if reached then Ends (Reached r) else x) ≡ Forwards p h → (passed ≡ false)
    × (x ≡ Forwards p h)
looked_by true reached r x p h is = absurd (ends_not _ p h is)
looked_by false true r x p h is = absurd (ends_not _ p h is)
looked_by false false r x p h is = (refl, is)

some_route : (costs : Costs) (r : Addr) (q : Prefix) (route : Option Candidate) (p : Prefix) (h : Addr) →
    by_route costs r q route ≡ Forwards p h → is_some route ≡ true
some_route costs r q None p h is = absurd (ends_not _ p h is)
some_route costs r q (Some b) p h is = refl

some_through : {A B C : Type 0} (f : B → Option C) (g : A → B) (o : Option A) →
    is_some (option_and_then f (option_map g o)) ≡ true → is_some o ≡ true
some_through f g None h = h
some_through f g (Some a) h = refl

-- where a route is chosen, somebody is there
chooser_there : (s : Network) (r : Addr) (p : Prefix) → is_some (best s r p) ≡ true → has_node s.conf r ≡ true
unfolding best site_of
chooser_there s r p h =
    some_through (λ site. best_of (standings site p s.received))
    (λ n. record {
      me = r;
      asn = n.asn;
      cluster = cluster_id s.conf r;
      reflector = is_reflector s.conf r;
      med_always = compares_all_meds s.conf r;
      origins = origins_of s.conf r;
      sessions = sessions_of s.conf r;
      costs = costs_of s.conf r;
    }) (node_at s.conf r) h

matched_there : (s : Network) (r : Addr) (found : Option Prefix) (p : Prefix) (h : Addr) →
    by_prefix s r found ≡ Forwards p h → has_node s.conf r ≡ true
matched_there s r None p h is = absurd (ends_not _ p h is)
matched_there s r (Some q) p h is = chooser_there s r q (some_route (costs_of s.conf r) r q (best s r q) p h is)

-- who forwards has not forwarded before, and is there
forwarder : (s : Network) (d : Addr) (hops : List (Addr × Prefix)) (r : Addr) (p : Prefix) (h : Addr) →
    look s d hops r ≡ Forwards p h → (has_passed r hops ≡ false) × (has_node s.conf r ≡ true)
unfolding look
forwarder s d hops r p h is =
    let parts = looked_by (has_passed r hops) (is_virtual s.conf r) r (by_prefix s r (longest_match s r d)) p h is in
    (parts.0, matched_there s r (longest_match s r d) p h parts.1)

there_by : (s : Network) (q r : Addr) (earlier : Bool) → (earlier ≡ true → has_node s.conf q ≡ true) →
    has_node s.conf r ≡ true → (earlier || (same q r || false)) ≡ true → has_node s.conf q ≡ true
there_by s q r true before here h = before refl
there_by s q r false before here h = last (same q r) refl h where
  last : (b : Bool) → same q r ≡ b → (b || false) ≡ true → has_node s.conf q ≡ true
  last true is h = ap (has_node s.conf) (same_true q r is) ∙ here
  last false is h = absurd (true≢false (sym h))

pub one_more_has : (s : Network) (d : Addr) (hops : List (Addr × Prefix)) (r : Addr) (p : Prefix) (h : Addr) →
    HaveForwarded s hops → look s d hops r ≡ Forwards p h → HaveForwarded s (hops ++ (r, p) ∷ [])
one_more_has s d hops r p h have is =
    let who = forwarder s d hops r p h is in
    let pushed : routers (hops ++ (r, p) ∷ []) ≡ routers hops ++ r ∷ [] = map-append (λ x. x.0) hops ((r, p) ∷ []) in
    let Once : List Addr → Type 0 = λ qs. IsDistinct same qs in
    record {
      once = subst Once (sym pushed)
          (IsDistinct-push same_laws (routers hops) r have.once (sym (passed_are_routers r hops) ∙ who.0));
      there = λ q among. there_by s q r (list_any (same q) (routers hops)) (have.there q) who.1
          (sym (list_any-append (same q) (routers hops) (r ∷ [])) ∙ sym (ap (list_any (same q)) pushed) ∙ among);
    }

-- ONE LOOK FURTHER

one_more : (n : ℕ) (s : Network) (d : Addr) (hops : List (Addr × Prefix)) (r : Addr) →
    trace_from (suc n) s d hops r ≡ after_look (trace_from n s d) hops r (look s d hops r)
unfolding trace_from
one_more n s d hops r = refl

one_left : (n i : ℕ) → i ≤ n → suc n - i ≡ suc (suc n - (i + 1))
one_left n i le = omega (arith, le)

length_pushed : {A : Type 0} (xs : List A) (x : A) → length (xs ++ x ∷ []) ≡ length xs + 1
length_pushed xs x = length-append xs (x ∷ [])

module _ (s : Network) (d : Addr) (hops : List (Addr × Prefix)) (r : Addr) (have : HaveForwarded s hops) where
  looked : trace_from (suc (length s.conf.nodes) - length hops) s d hops r
      ≡ after_look (trace_from (suc (length s.conf.nodes) - (length hops + 1)) s d) hops r (look s d hops r)
  looked = ap (λ m. trace_from m s d hops r) (one_left (length s.conf.nodes) (length hops) (few_have s hops have))
      ∙ one_more (suc (length s.conf.nodes) - (length hops + 1)) s d hops r

  pub ends_here : (ending : TraceEnd) → look s d hops r ≡ Ends ending →
      trace_from (suc (length s.conf.nodes) - length hops) s d hops r ≡ ended hops ending
  ends_here ending is = looked
      ∙ ap (after_look (trace_from (suc (length s.conf.nodes) - (length hops + 1)) s d) hops r) is

  pub goes_on : (p : Prefix) (h : Addr) → look s d hops r ≡ Forwards p h →
      trace_from (suc (length s.conf.nodes) - length hops) s d hops r
      ≡ trace_from (suc (length s.conf.nodes) - length (hops ++ (r, p) ∷ [])) s d (hops ++ (r, p) ∷ []) h
  goes_on p h is =
      looked
      ∙ ap (after_look (trace_from (suc (length s.conf.nodes) - (length hops + 1)) s d) hops r) is
      ∙ ap (λ n. trace_from (suc (length s.conf.nodes) - n) s d (hops ++ (r, p) ∷ []) h)
      (sym (length_pushed hops (r, p)))

none_past : (n : ℕ) → n - 0 ≡ n
none_past n = omega arith

-- no hop yet: all looks are left
pub all_left : (s : Network) (d : Addr) (hops : List (Addr × Prefix)) (r : Addr) → hops ≡ [] →
    trace_from (suc (length s.conf.nodes) - length hops) s d hops r ≡ trace_from (suc (length s.conf.nodes)) s d [] r
all_left s d hops r none = ap (λ xs. trace_from (suc (length s.conf.nodes) - length xs) s d xs r) none
    ∙ ap (λ n. trace_from n s d [] r) (none_past (suc (length s.conf.nodes)))

-- fewer looks are left after each hop
pub fewer_left : (s : Network) (hops more : List (Addr × Prefix)) (r : Addr) (p : Prefix) → HaveForwarded s hops →
    more ≡ hops ++ (r, p) ∷ [] → suc (length s.conf.nodes) - length more < suc (length s.conf.nodes) - length hops
fewer_left s hops more r p have is = omega (arith, few_have s hops have, ap length is ∙ length_pushed hops (r, p))

-- A TRACE FOLLOWS ITS LOOKS

-- what n looks from r on give is followed
record IsFollowed (n : ℕ) (s : Network) (d : Addr) (passed : List (Addr × Prefix)) (r : Addr) : Type 0 where
  hops : List (Addr × Prefix)
  ending : TraceEnd
  gives : trace_from n s d passed r ≡ ended (passed ++ hops) ending
  follows : IsTrace s d passed r hops ending

followed_by : (n : ℕ) (s : Network) (d : Addr) (passed : List (Addr × Prefix)) (r : Addr) (x : Look) →
    look s d passed r ≡ x → ((p : Prefix) (h : Addr) → look s d passed r ≡ Forwards p h →
    IsFollowed n s d (passed ++ (r, p) ∷ []) h) → IsFollowed (suc n) s d passed r
followed_by n s d passed r (Ends ending) is later = record {
  hops = [];
  ending = ending;
  gives = one_more n s d passed r ∙ ap (after_look (trace_from n s d) passed r) is
      ∙ ap (λ xs. ended xs ending) (sym (append-nil passed));
  follows = is;
}
followed_by n s d passed r (Forwards p h) is later =
    let rest = later p h is in
    record {
      hops = (r, p) ∷ rest.hops;
      ending = rest.ending;
      gives = one_more n s d passed r ∙ ap (after_look (trace_from n s d) passed r) is ∙ rest.gives
          ∙ ap (λ xs. ended xs rest.ending) (append_assoc passed ((r, p) ∷ []) rest.hops);
      follows = (refl, h, is, rest.follows);
    }

followed : (n : ℕ) (s : Network) (d : Addr) (passed : List (Addr × Prefix)) (r : Addr) → HaveForwarded s passed →
    length s.conf.nodes < n + length passed → IsFollowed n s d passed r
followed zero s d passed r have enough = absurd (omega (arith, enough, few_have s passed have))
followed (suc n) s d passed r have enough =
    followed_by n s d passed r (look s d passed r) refl
    (λ p h is. followed n s d (passed ++ (r, p) ∷ []) h (one_more_has s d passed r p h have is)
    (omega (arith, enough, length_pushed passed (r, p))))

pub trace_law : TraceLaw
unfolding trace
trace_law s r d =
    let f = followed (suc (length s.conf.nodes)) s d [] r (none_have s) (omega arith) in
    let P : Traced → Type 0 = λ t. IsTrace s d [] r t.hops t.ending in
    subst P (sym f.gives) f.follows

one_trace : (s : Network) (d : Addr) (passed : List (Addr × Prefix)) (r : Addr) (hops more : List (Addr × Prefix))
    (e f : TraceEnd) → IsTrace s d passed r hops e → IsTrace s d passed r more f → ended hops e ≡ ended more f
one_trace s d passed r [] [] e f a b =
    let both : Ends e ≡ Ends f = sym a ∙ b in
    let one : e ≡ f = cc in
    ap (ended []) one
one_trace s d passed r [] ((q, p) ∷ more) e f a b = absurd (ends_not e p b.1 (sym a ∙ b.2))
one_trace s d passed r ((q, p) ∷ hops) [] e f a b = absurd (ends_not f p a.1 (sym b ∙ a.2))
one_trace s d passed r ((q, p) ∷ hops) ((q', p') ∷ more) e f a b =
    let both : Forwards p a.1 ≡ Forwards p' b.1 = sym a.2 ∙ b.2 in
    let router : q ≡ q' = a.0 ∙ sym b.0 in
    let prefix : p ≡ p' = cc in
    let next : a.1 ≡ b.1 = cc in
    let Rest : Addr → Prefix → Addr → Type 0 = λ x y z. IsTrace s d (passed ++ (x, y) ∷ []) z hops e in
    let rest = one_trace s d (passed ++ (q', p') ∷ []) b.1 hops more e f (coerced Rest router prefix next a.3) b.3 in
    λ i. ended ((router i, prefix i) ∷ (rest i).hops) (rest i).ending
  where
    coerced : {A B C : Type 0} (P : A → B → C → Type 0) {a a' : A} {b b' : B} {c c' : C} → a ≡ a' → b ≡ b' → c ≡ c' →
        P a b c → P a' b' c'
    coerced P {a = a} {a' = a'} {b = b} {b' = b'} {c = c} {c' = c'} x y z h =
        subst (λ w. P a' b' w) z (subst (λ w. P a' w c) y (subst (λ w. P w b c) x h))

pub one_trace_law : OneTraceLaw
one_trace_law s r d hops ending is = one_trace s d [] r hops (trace s r d).hops ending
    (trace s r d).ending is (trace_law s r d)
