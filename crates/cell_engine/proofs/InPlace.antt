-- A message taken into a choice where it stands: the best is there before what is withdrawn is forgotten, and what was
-- put aside can be put back.
use Rattle.std.proofs.Common.{◌≡◌, Bool, true, false, not, cond, T, ◌&&◌, List, [], ◌∷◌, Option, Some, None, is_some, refl, sym, ap, subst, ◌∙◌}
use Rattle.std.proofs.lemmas.Bool.{and_parts}
use Rattle.std.specs.List.{cons_option}
use Rattle.std.specs.Option.{option_map_or, option_to_list, option_or}
use Rattle.std.specs.declared.cmp.Ordering.{Ordering}
use Rattle.std.specs.declared.cmp.Ordering.TheVariants.{Less, Equal, Greater}
use Rattle.std.specs.Ordering.{is_eq, is_lt, eq_by_cmp}
use Rattle.std.specs.Cmp.{eq_by_cmp_equiv}
use Rattle.std.specs.FinMap as finite
use Rattle.std.specs.FinMap.{FinMap}
use Rattle.std.specs.FinMap.Entries.{put, find, by_order, where_key, below_all, is_sorted, is_sorted-where_key, find-where_key}
use Rattle.net_prefix.specs.declared.addr.Addr.{Addr}
use Rattle.net_prefix.specs.Prefix.{Prefix}
use Rattle.path_attr.specs.declared.attr.Attr.{Attr}
use Rattle.net_conf.specs.declared.site.SiteConf.{SiteConf}
use Rattle.net_conf.specs.declared.site.SiteSession.{SiteSession}
use Rattle.net_conf.specs.Sites.{session_with}
use Rattle.route_select.specs.declared.candidate.Source.{Source}
use Rattle.route_select.specs.declared.candidate.Source.TheVariants.{Peer as FromPeer}
use Rattle.route_select.specs.declared.candidate.Reason.{Reason}
use Rattle.route_select.specs.declared.candidate.Reason.TheVariants.{Loop}
use Rattle.route_select.specs.declared.candidate.Standing.{Standing}
use Rattle.route_select.specs.declared.candidate.Standing.TheVariants.{Excluded}
use Rattle.route_select.specs.Selection.{Standings, best_among, best_of, candidate_of, considered_in, source_cmp, standing_from, with_standing, without_source}
use Rattle.route_select.proofs.EntryLemmas.{source_total, same_source, less_of, flipped}
use Rattle.session_queue.specs.declared.message.Message.{Message}
use Rattle.session_queue.specs.declared.message.Message.TheVariants.{Update, Withdraw}
use Rattle.reference_machine.specs.Decision.{added, standing_over}
use Rattle.session_queue.specs.Telling.{prefix_of}
use Rattle.cell_engine.specs.Cells.{Cell, IsDecided, delivered, sends_of, standings_by, with_news}
use Rattle.cell_engine.specs.Updates.{standings_after}
use Rattle.cell_engine.specs.Senders.{AreInOrder}
use Rattle.cell_engine.specs.InPlace.{forgotten, put_back, sends_with, set_aside, IsKnownIn}
use Rattle.cell_engine.proofs.Effective.{effective_best, same_standings}
use Rattle.reference_machine.proofs.Entries.{equal_from}
use Rattle.cell_engine.proofs.StandingsAfter.{ArePeersInOrder, compares_after, peer_found, put_one, stood, taken}

-- THE BEST

abbrev Entries : Type 0
Entries = List (Source × Standing)

abbrev others : Source → Entries → Entries
others s es = where_key source_cmp (λ k. not (eq_by_cmp source_cmp s k)) es

others_behind : (s : Source) (es : Entries) → below_all source_cmp s es ≡ true → others s es ≡ es
others_behind s [] h = refl
others_behind s (e ∷ es) h =
    let parts = and_parts (is_lt (source_cmp s e.0)) (below_all source_cmp s es) h in
    ap (λ o. cond (not (is_eq o)) (e ∷ others s es) (others s es)) (less_of (source_cmp s e.0) parts.0)
    ∙ ap (λ l. e ∷ l) (others_behind s es parts.1)

below_less : (s t : Source) (es : Entries) → source_cmp s t ≡ Less → below_all source_cmp t es ≡ true →
    below_all source_cmp s es ≡ true
below_less s t [] less h = refl
below_less s t (e ∷ es) less h =
    let parts = and_parts (is_lt (source_cmp t e.0)) (below_all source_cmp t es) h in
    λ i. is_lt (source_total.trans s t e.0 less (less_of (source_cmp t e.0) parts.0) i)
    && below_less s t es less parts.1 i

excluded_by : (o : Ordering) (s : Source) (r : Reason) (e : Source × Standing) (es : Entries) → source_cmp s e.0 ≡ o →
    below_all source_cmp e.0 es ≡ true → considered_in (put source_cmp s (Excluded r) es)
    ≡ considered_in (others s es) →
    considered_in (by_order o ((s, Excluded r) ∷ e ∷ es) ((e.0, Excluded r) ∷ es)
    (e ∷ put source_cmp s (Excluded r) es)) ≡ considered_in (cond (not (is_eq o)) (e ∷ others s es) (others s es))
excluded_by Less s r e es is below rest =
    ap (λ l. considered_in (e ∷ l)) (sym (others_behind s es (below_less s e.0 es is below)))
excluded_by Equal s r e es is below rest =
    ap considered_in (sym (others_behind s es
    (subst (λ k. below_all source_cmp k es ≡ true) (sym (same_source s e.0 is)) below)))
excluded_by Greater s r e es is below rest = ap (cons_option (candidate_of e.1)) rest

-- what is excluded is not considered, as what is forgotten is not
considered_excluded : (s : Source) (r : Reason) (es : Entries) → is_sorted source_cmp es ≡ true →
    considered_in (put source_cmp s (Excluded r) es) ≡ considered_in (others s es)
considered_excluded s r [] h = refl
considered_excluded s r (e ∷ es) h =
    let parts = and_parts (below_all source_cmp e.0 es) (is_sorted source_cmp es) h in
    excluded_by (source_cmp s e.0) s r e es refl parts.0 (considered_excluded s r es parts.1)

of_T : (b : Bool) → T b → b ≡ true
of_T true t = refl
of_T false t = absurd t

entries_without : (m : FinMap source_cmp Standing) (s : Source) →
    finite.entries (finite.remove m s) ≡ others s (finite.entries m)
entries_without m s =
    let es = finite.entries m in
    let rising = is_sorted-where_key source_cmp (λ k. not (eq_by_cmp source_cmp s k)) es (finite.entries_sorted m) in
    let same : finite.from_sorted (others s es) ≡ finite.remove m s =
    finite.same_map source_total same_source (finite.from_sorted (others s es)) (finite.remove m s) (λ q.
    finite.get-from_sorted source_cmp (others s es) q rising
    ∙ find-where_key source_cmp (λ k. not (eq_by_cmp source_cmp s k)) q
    (λ x e. ap (λ k. not (eq_by_cmp source_cmp s k)) (sym (same_source q x e))) es
    ∙ flipped (eq_by_cmp source_cmp s q) _ _
    ∙ ap (λ b. cond b None (find source_cmp q es)) ((eq_by_cmp_equiv source_total).symm s q)
    ∙ ap (λ o. cond (eq_by_cmp source_cmp q s) None o) (sym (finite.get-entries m q))
    ∙ sym (finite.get-remove source_total m s q)) in
    ap finite.entries (sym same) ∙ finite.entries-from_sorted source_cmp (others s es) rising

-- the best is the one that is there once the route is forgotten
best_without : (s : Source) (r : Reason) (m : Standings) →
    best_of (with_standing s (Excluded r) m) ≡ best_of (without_source s m)
best_without s r m = ap (best_among m.med_always) (
    ap considered_in (finite.entries-insert source_total m.known s (Excluded r))
    ∙ considered_excluded s r (finite.entries m.known) (of_T _ (finite.entries_sorted m.known))
    ∙ ap considered_in (sym (entries_without m.known s))
    )

pub best_aside : (site : SiteConf) (u : Addr) (m : Message) (s : Standings) →
    best_of (set_aside site u m s) ≡ best_of (standings_after site u m s)
best_aside site u (Update p attr) s = refl
best_aside site u (Withdraw p) s = best_without (FromPeer u) Loop s

-- FORGOTTEN

twice : {A : Type 0} (b : Bool) (x y z : A) → cond b x (cond b y z) ≡ cond b x z
twice true x y z = refl
twice false x y z = refl

pub forgotten_then : (site : SiteConf) (u : Addr) (m : Message) (s : Standings) →
    forgotten u m (set_aside site u m s) ≡ standings_after site u m s
forgotten_then site u (Update p attr) s = refl
forgotten_then site u (Withdraw p) s =
    let q = FromPeer u in
    let v = Excluded Loop in
    same_standings (without_source q (with_standing q v s)) (without_source q s) (λ x.
    finite.get-remove source_total (finite.insert s.known q v) q x
    ∙ ap (cond (eq_by_cmp source_cmp x q) None) (finite.get-insert source_total s.known q v x)
    ∙ twice (eq_by_cmp source_cmp x q) None (Some v) (standing_from s x)
    ∙ sym (finite.get-remove source_total s.known q x)) refl

-- PUT BACK

-- the two differ in the one source alone
record DifferAt (q : Source) (n s : Standings) : Type 0 where
  elsewhere : (x : Source) → eq_by_cmp source_cmp x q ≡ false → standing_from n x ≡ standing_from s x
  alike : n.med_always ≡ s.med_always

restored_by : (q : Source) (n s : Standings) (had : Option Standing) → DifferAt q n s → standing_from s q ≡ had →
    put_back q had n ≡ s
restored_by q n s had differ is = by had is
  where
    at_source : (x : Source) → eq_by_cmp source_cmp x q ≡ true → standing_from s x ≡ standing_from s q
    at_source x same = ap (standing_from s) (same_source x q (equal_from (source_cmp x q) same))

    stands_by : (b : Bool) (had : Option Standing) (x : Source) → eq_by_cmp source_cmp x q ≡ b →
        standing_from s q ≡ had → cond b had (standing_from n x) ≡ standing_from s x
    stands_by true had x same is = sym is ∙ sym (at_source x same)
    stands_by false had x other is = differ.elsewhere x other

    by : (had : Option Standing) → standing_from s q ≡ had → put_back q had n ≡ s
    by None is = same_standings (without_source q n) s (λ x. finite.get-remove source_total n.known q x
        ∙ stands_by (eq_by_cmp source_cmp x q) None x refl is) differ.alike
    by (Some v) is = same_standings (with_standing q v n) s (λ x. finite.get-insert source_total n.known q v x
        ∙ stands_by (eq_by_cmp source_cmp x q) (Some v) x refl is) differ.alike

module _ (site : SiteConf) (u : Addr) where
  abbrev put_over : Prefix → Attr → Standings → Option SiteSession → Standings
  put_over p attr s o = option_map_or (λ x. added s (option_to_list (standing_over site p x (Some attr)))) o s

  off : (w v : Addr) (x : Source) → w ≡ v → eq_by_cmp source_cmp x (FromPeer v) ≡ false →
      eq_by_cmp source_cmp x (FromPeer w) ≡ false
  off w v x same other = ap (λ a. eq_by_cmp source_cmp x (FromPeer a)) same ∙ other

  over_elsewhere : (p : Prefix) (attr : Attr) (s : Standings) (o : Option SiteSession) → session_with site u ≡ o →
      (x : Source) → eq_by_cmp source_cmp x (FromPeer u) ≡ false →
      standing_from (put_over p attr s o) x ≡ standing_from s x
  over_elsewhere p attr s None at x other = refl
  over_elsewhere p attr s (Some y) at x other =
      put_one site p y (Some attr) s x
      ∙ ap (λ b. cond b (option_or (stood site p y (Some attr)) (standing_from s x)) (standing_from s x))
      (off y.peer u x (peer_found site.sessions u y at) other)

  differ : (m : Message) (s : Standings) → DifferAt (FromPeer u) (set_aside site u m s) s
  differ (Update p attr) s = record {
    elsewhere = over_elsewhere p attr s (session_with site u) refl;
    alike = compares_after site u (Update p attr) s;
  }
  differ (Withdraw p) s = record {
    elsewhere = λ x other. finite.get-insert source_total s.known (FromPeer u) (Excluded Loop) x
        ∙ ap (λ b. cond b (Some (Excluded Loop)) (standing_from s x)) other;
    alike = refl;
  }

  -- as if the message had not been taken
  pub restored : (m : Message) (s : Standings) →
      put_back (FromPeer u) (standing_from s (FromPeer u)) (set_aside site u m s) ≡ s
  restored m s = restored_by (FromPeer u) (set_aside site u m s) s (standing_from s (FromPeer u)) (differ m s) refl

  some_or : (o w : Option Standing) → is_some w ≡ true → is_some (option_or o w) ≡ true
  some_or None w is = is
  some_or (Some v) w is = refl

  some_either : (b : Bool) (o w : Option Standing) → is_some w ≡ true → is_some (cond b (option_or o w) w) ≡ true
  some_either true o w is = some_or o w is
  some_either false o w is = is

  known_over : (p : Prefix) (attr : Attr) (s : Standings) (o : Option SiteSession) (q : Source) →
      is_some (standing_from s q) ≡ true → is_some (standing_from (put_over p attr s o) q) ≡ true
  known_over p attr s None q is = is
  known_over p attr s (Some y) q is =
      ap is_some (put_one site p y (Some attr) s q)
      ∙ some_either (eq_by_cmp source_cmp q (FromPeer y.peer)) (stood site p y (Some attr)) (standing_from s q) is

  some_put : (b : Bool) (v : Standing) (w : Option Standing) → is_some w ≡ true → is_some (cond b (Some v) w) ≡ true
  some_put true v w is = refl
  some_put false v w is = is

  -- who was known still is
  pub known_aside : (m : Message) (s : Standings) →
      IsKnownIn (FromPeer u) (standing_from s (FromPeer u)) (set_aside site u m s)
  known_aside (Update p attr) s standing had = known_over p attr s (session_with site u) (FromPeer u) (ap is_some had)
  known_aside (Withdraw p) s standing had =
      let q = FromPeer u in
      ap is_some (finite.get-insert source_total s.known q (Excluded Loop) q)
      ∙ some_put (eq_by_cmp source_cmp q q) (Excluded Loop) (standing_from s q) (ap is_some had)

-- WHAT IS SENT

-- what a router sends for a message, by the routes that it has received
pub sends_delivered : (site : SiteConf) (h : Cell) (u : Addr) (m : Message) → IsDecided (Some site) (prefix_of m) h →
    (delivered site h u m).sends ≡ sends_with site u m h.received
unfolding delivered
sends_delivered site h u m is =
    let p = prefix_of m in
    let had = ap (λ (x : Cell). best_of x.standings) is ∙ effective_best (standings_by site p h.received) in
    λ i. sends_of site site p (had i) (effective_best (standings_by site p (with_news u m h.received)) i)

-- TAKEN

module _ (site : SiteConf) (u : Addr) (m : Message) (routes : List (Addr × Attr))
    (peers : ArePeersInOrder site.sessions) (order : AreInOrder routes) (s : Standings)
    (stands : s ≡ standings_by site (prefix_of m) routes) where
  then_stand : standings_after site u m s ≡ standings_by site (prefix_of m) (with_news u m routes)
  then_stand = ap (standings_after site u m) stands ∙ taken site u m routes peers order

  -- the best is the one of what has been received then
  pub best_then : best_of (set_aside site u m s) ≡ best_of (standings_by site (prefix_of m) (with_news u m routes))
  best_then = best_aside site u m s ∙ ap best_of then_stand

  -- and so is each standing, once what is withdrawn is forgotten
  pub stands_then : forgotten u m (set_aside site u m s) ≡ standings_by site (prefix_of m) (with_news u m routes)
  stands_then = forgotten_then site u m s ∙ then_stand
