-- The standings of routes of which one has changed are those of before, with the one source put or dropped.
use Rattle.std.proofs.Common.{◌≡◌, Bool, true, false, cond, List, [], ◌∷◌, ◌++◌, map, find, Option, Some, None, ◌==◌, refl, sym, ap, subst, ◌∙◌}
use Rattle.std.specs.List.{AllByRecursion, filter_map, cons_option}
use Rattle.std.specs.List.Sorted.{IsStrictlySortedBy}
use Rattle.std.specs.Option.{option_map, option_map_or, option_or, option_to_list}
use Rattle.std.specs.declared.cmp.Ordering.TheVariants.{Less}
use Rattle.std.specs.Ordering.{is_eq, eq_by_cmp}
use Rattle.std.specs.Cmp.{unsigned_ties}
use Rattle.std.specs.FinMap as finite
use Rattle.std.proofs.lemmas.Cmp.{nat_eq_equiv}
use Rattle.std.proofs.lemmas.List.Sums.{fold-append}
use Rattle.net_prefix.specs.declared.addr.Addr.{Addr}
use Rattle.net_prefix.specs.Address.{addr_cmp}
use Rattle.net_prefix.specs.Orders.{addr_exact}
use Rattle.net_prefix.specs.Prefix.{Prefix}
use Rattle.path_attr.specs.declared.attr.Attr.{Attr}
use Rattle.net_conf.specs.declared.site.SiteConf.{SiteConf}
use Rattle.net_conf.specs.declared.site.SiteSession.{SiteSession}
use Rattle.net_conf.specs.Sites.{session_with}
use Rattle.route_select.specs.declared.candidate.Source.{Source}
use Rattle.route_select.specs.declared.candidate.Source.TheVariants.{Own, Peer as FromPeer}
use Rattle.route_select.specs.declared.candidate.Standing.{Standing}
use Rattle.route_select.specs.declared.candidate.Standing.TheVariants.{Considered}
use Rattle.route_select.specs.Selection.{source_cmp, Standings, no_standings, with_standing, standing_from}
use Rattle.route_select.proofs.EntryLemmas.{source_total}
use Rattle.session_queue.specs.declared.message.Message.{Message}
use Rattle.session_queue.specs.declared.message.Message.TheVariants.{Update, Withdraw}
use Rattle.session_queue.specs.Telling.{prefix_of}
use Rattle.reference_machine.specs.Decision.{own_candidate, own_standings, is_originated, standing_over, peer_standing, added}
use Rattle.cell_engine.specs.Cells.{route_of, standing_of, standings_by, standings_of, with_news}
use Rattle.cell_engine.specs.Senders.{AreInOrder}
use Rattle.cell_engine.specs.Updates.{standings_after}
use Rattle.cell_engine.proofs.Effective.{same_standings, added_always}
use Rattle.reference_machine.proofs.Entries.{equal_from}
use Rattle.cell_engine.proofs.SendersInOrder.{told, route_with_news}

-- THE PEERS OF A SITE

abbrev pub ArePeersInOrder : List SiteSession → Type 0
ArePeersInOrder sessions = IsStrictlySortedBy addr_cmp (map (λ x. x.peer) sessions)

abbrev pub session_in : List SiteSession → Addr → Option SiteSession
session_in sessions u = find (λ x. x.peer.0 == u.0) sessions

pub tied : (a b : Addr) → (a.0 == b.0) ≡ is_eq (addr_cmp b a)
tied a b = nat_eq_equiv.symm a.0 b.0 ∙ unsigned_ties b.0 a.0

pub one_addr : (a b : Addr) → is_eq (addr_cmp a b) ≡ true → a ≡ b
one_addr a b h = addr_exact a b (equal_from (addr_cmp a b) h)

-- a session that is found is with the peer
found_by : (b : Bool) (y x : SiteSession) (xs : List SiteSession) (u : Addr) → (y.peer.0 == u.0) ≡ b →
    (session_in xs u ≡ Some x → x.peer ≡ u) → cond b (Some y) (session_in xs u) ≡ Some x → x.peer ≡ u
found_by true y x xs u is rest e =
    let same : y ≡ x = cc in
    ap (λ z. z.peer) (sym same) ∙ sym (one_addr u y.peer (sym (tied y.peer u) ∙ is))
found_by false y x xs u is rest e = rest e

pub peer_found : (xs : List SiteSession) (u : Addr) (x : SiteSession) → session_in xs u ≡ Some x → x.peer ≡ u
peer_found [] u x e = cc
peer_found (y ∷ xs) u x e = found_by (y.peer.0 == u.0) y x xs u refl (peer_found xs u x) e

-- no session is with a peer that is before all
pub none_later : (u : Addr) (xs : List SiteSession) → AllByRecursion (λ a. addr_cmp u a ≡ Less) (map (λ x. x.peer) xs) →
    session_in xs u ≡ None
none_later u [] h = refl
none_later u (y ∷ ys) h = ap (λ b. cond b (Some y) (session_in ys u)) (tied y.peer u ∙ ap is_eq h.0)
    ∙ none_later u ys h.1

-- STANDINGS BY SOURCE

same_either_way : {A : Type 0} (b : Bool) (x : A) → cond b x x ≡ x
same_either_way true x = refl
same_either_way false x = refl

added_first : (m : Standings) (o : Option (Source × Standing)) (es : List (Source × Standing)) →
    added m (cons_option o es) ≡ added (added m (option_to_list o)) es
added_first m None es = refl
added_first m (Some e) es = refl

module _ (site : SiteConf) (p : Prefix) where
  -- the standing of a route over the session
  abbrev pub stood : SiteSession → Option Attr → Option Standing
  stood x a = option_map (λ (e : Source × Standing). e.1) (standing_over site p x a)

  put_by_up : (up : Bool) (u : Addr) (v : Standing) (m : Standings) (q : Source) →
      standing_from (added m (option_to_list (cond up (Some (FromPeer u, v)) None))) q
      ≡ cond (eq_by_cmp source_cmp q (FromPeer u))
      (option_or (option_map (λ (e : Source × Standing). e.1) (cond up (Some (FromPeer u, v)) None))
      (standing_from m q)) (standing_from m q)
  put_by_up true u v m q = finite.get-insert source_total m.known (FromPeer u) v q
  put_by_up false u v m q = sym (same_either_way (eq_by_cmp source_cmp q (FromPeer u)) (standing_from m q))

  -- a standing over the session is its peer's
  pub put_one : (x : SiteSession) (a : Option Attr) (m : Standings) (q : Source) →
      standing_from (added m (option_to_list (standing_over site p x a))) q
      ≡ cond (eq_by_cmp source_cmp q (FromPeer x.peer)) (option_or (stood x a) (standing_from m q)) (standing_from m q)
  put_one x None m q = sym (same_either_way (eq_by_cmp source_cmp q (FromPeer x.peer)) (standing_from m q))
  put_one x (Some attr) m q = put_by_up x.up x.peer (peer_standing site p x attr) m q

  restood_by_up : (up : Bool) (u : Addr) (v w : Standing) →
      option_or (option_map (λ (e : Source × Standing). e.1) (cond up (Some (FromPeer u, v)) None))
      (option_or (option_map (λ (e : Source × Standing). e.1) (cond up (Some (FromPeer u, w)) None)) None)
      ≡ option_or (option_map (λ (e : Source × Standing). e.1) (cond up (Some (FromPeer u, v)) None)) None
  restood_by_up true u v w = refl
  restood_by_up false u v w = refl

  -- what is put over the session takes the place of what stood there
  restood : (x : SiteSession) (attr : Attr) (a : Option Attr) →
      option_or (stood x (Some attr)) (option_or (stood x a) None) ≡ option_or (stood x (Some attr)) None
  restood x attr None = refl
  restood x attr (Some before) = restood_by_up x.up x.peer (peer_standing site p x attr) (peer_standing site p x before)

  -- the standing of this route over a session that may be there, or else what was there
  abbrev pub stood_or : Option SiteSession → (Addr → Option Attr) → Option Standing → Option Standing
  stood_or None route was = was
  stood_or (Some x) route was = option_or (stood x (route x.peer)) was

  module _ (routes : List (Addr × Attr)) where
    own_kept : (xs : List SiteSession) (m : Standings) →
        standing_from (added m (filter_map (standing_of site p routes) xs)) Own ≡ standing_from m Own
    own_kept [] m = refl
    own_kept (x ∷ xs) m =
        ap (λ n. standing_from n Own)
        (added_first m (standing_of site p routes x) (filter_map (standing_of site p routes) xs))
        ∙ own_kept xs (added m (option_to_list (standing_of site p routes x)))
        ∙ put_one x (route_of routes x.peer) m Own

    peers_by : (b : Bool) (x : SiteSession) (xs : List SiteSession) (m : Standings) (u : Addr) → (x.peer.0 == u.0) ≡ b →
        AllByRecursion (λ a. addr_cmp x.peer a ≡ Less) (map (λ x. x.peer) xs) →
        stood_or (session_in xs u) (route_of routes)
        (cond b (option_or (stood x (route_of routes x.peer)) (standing_from m (FromPeer u)))
        (standing_from m (FromPeer u))) ≡ stood_or (cond b (Some x) (session_in xs u)) (route_of routes)
        (standing_from m (FromPeer u))
    peers_by true x xs m u is later =
        let same : u ≡ x.peer = one_addr u x.peer (sym (tied x.peer u) ∙ is) in
        let none : session_in xs u ≡ None =
        none_later u xs (subst (λ v. AllByRecursion (λ a. addr_cmp v a ≡ Less) (map (λ x. x.peer) xs))
        (sym same) later) in
        ap (λ o. stood_or o (route_of routes)
        (option_or (stood x (route_of routes x.peer)) (standing_from m (FromPeer u)))) none
    peers_by false x xs m u is later = refl

    -- each peer's route stands as over its session
    peers_stand : (xs : List SiteSession) → ArePeersInOrder xs → (m : Standings) (u : Addr) →
        standing_from (added m (filter_map (standing_of site p routes) xs)) (FromPeer u)
        ≡ stood_or (session_in xs u) (route_of routes) (standing_from m (FromPeer u))
    unfolding IsStrictlySortedBy
    peers_stand [] h m u = refl
    peers_stand (x ∷ xs) h m u =
        let more : Standings = added m (option_to_list (standing_of site p routes x)) in
        ap (λ n. standing_from n (FromPeer u))
        (added_first m (standing_of site p routes x) (filter_map (standing_of site p routes) xs))
        ∙ peers_stand xs h.1 more u
        ∙ ap (stood_or (session_in xs u) (route_of routes)) (
        put_one x (route_of routes x.peer) m (FromPeer u)
        ∙ ap (λ b. cond b (option_or (stood x (route_of routes x.peer)) (standing_from m (FromPeer u)))
        (standing_from m (FromPeer u))) (sym (tied x.peer u)))
        ∙ peers_by (x.peer.0 == u.0) x xs m u refl h.0

    abbrev own : Standings
    own = added (no_standings site.med_always) (own_standings site p)

    no_peer_by : (b : Bool) (u : Addr) →
        standing_from (added (no_standings site.med_always)
        (cond b ((Own, Considered (own_candidate site.me)) ∷ []) [])) (FromPeer u) ≡ None
    no_peer_by true u = finite.get-insert source_total finite.empty Own (Considered (own_candidate site.me))
        (FromPeer u) ∙ finite.get-empty source_cmp (FromPeer u)
    no_peer_by false u = finite.get-empty source_cmp (FromPeer u)

    own_first : standings_by site p routes ≡ added own (filter_map (standing_of site p routes) site.sessions)
    own_first = fold-append (λ n (e : Source × Standing). with_standing e.0 e.1 n) (no_standings site.med_always)
        (own_standings site p) (filter_map (standing_of site p routes) site.sessions)

    pub own_stands : standing_from (standings_of site p routes) Own ≡ standing_from own Own
    own_stands = ap (λ n. standing_from n Own) own_first ∙ own_kept site.sessions own

    pub peer_stands : ArePeersInOrder site.sessions → (u : Addr) →
        standing_from (standings_of site p routes) (FromPeer u) ≡ stood_or (session_with site u) (route_of routes) None
    peer_stands h u =
        ap (λ n. standing_from n (FromPeer u)) own_first
        ∙ peers_stand site.sessions h own u
        ∙ ap (stood_or (session_with site u) (route_of routes)) (no_peer_by (is_originated site p) u)

-- A MESSAGE

module _ (site : SiteConf) (u : Addr) (m : Message) (routes : List (Addr × Attr))
    (peers : ArePeersInOrder site.sessions) (order : AreInOrder routes) where
  abbrev p : Prefix
  p = prefix_of m

  abbrev news : List (Addr × Attr)
  news = with_news u m routes

  restands_by : (b : Bool) (x : SiteSession) →
      option_or (stood site p x (cond b (told m) (route_of routes x.peer))) None
      ≡ cond b (option_or (stood site p x (told m)) None) (option_or (stood site p x (route_of routes x.peer)) None)
  restands_by true x = refl
  restands_by false x = refl

  -- a peer's route stands as before, unless it is the sender
  restands : (o : Option SiteSession) (v : Addr) → session_with site v ≡ o →
      stood_or site p o (route_of news) None ≡ cond (is_eq (addr_cmp v u)) (stood_or site p o (λ _. told m) None)
      (stood_or site p o (route_of routes) None)
  restands None v is = sym (same_either_way (is_eq (addr_cmp v u)) None)
  restands (Some x) v is =
      ap (λ a. option_or (stood site p x a) None) (route_with_news u m routes order x.peer
      ∙ ap (λ w. cond (is_eq (addr_cmp w u)) (told m) (route_of routes x.peer)) (peer_found site.sessions v x is))
      ∙ restands_by (is_eq (addr_cmp v u)) x

module _ (site : SiteConf) (u : Addr) (p : Prefix) (routes : List (Addr × Attr)) (peers : ArePeersInOrder site.sessions)
    (order : AreInOrder routes) where
  abbrev old : Standings
  old = standings_by site p routes

  abbrev stood_before : Addr → Option Standing
  stood_before v = stood_or site p (session_with site v) (route_of routes) None

  module _ (attr : Attr) where
    abbrev stood_now : Addr → Option Standing
    stood_now v = stood_or site p (session_with site v) (λ _. Some attr) None

    abbrev put_over : Option SiteSession → Standings
    put_over o = option_map_or (λ x. added old (option_to_list (standing_over site p x (Some attr)))) o old

    own_put : (o : Option SiteSession) → standing_from (put_over o) Own ≡ standing_from old Own
    own_put None = refl
    own_put (Some x) = put_one site p x (Some attr) old Own

    none_by : (b : Bool) (v : Addr) → is_eq (addr_cmp v u) ≡ b → session_with site u ≡ None →
        stood_before v ≡ cond b (stood_now v) (stood_before v)
    none_by true v same is =
        let none : session_with site v ≡ None = ap (session_with site) (one_addr v u same) ∙ is in
        ap (λ o. stood_or site p o (route_of routes) None) none
        ∙ sym (ap (λ o. stood_or site p o (λ _. Some attr) None) none)
    none_by false v other is = refl

    some_by : (b : Bool) (x : SiteSession) (v : Addr) → is_eq (addr_cmp v u) ≡ b → session_with site u ≡ Some x →
        cond b (option_or (stood site p x (Some attr)) (stood_before v)) (stood_before v)
        ≡ cond b (stood_now v) (stood_before v)
    some_by true x v same is =
        let here : session_with site v ≡ Some x = ap (session_with site) (one_addr v u same) ∙ is in
        ap (λ o. option_or (stood site p x (Some attr)) (stood_or site p o (route_of routes) None)) here
        ∙ restood site p x attr (route_of routes x.peer)
        ∙ sym (ap (λ o. stood_or site p o (λ _. Some attr) None) here)
    some_by false x v other is = refl

    put_at : (o : Option SiteSession) (v : Addr) → session_with site u ≡ o →
        standing_from (put_over o) (FromPeer v) ≡ cond (is_eq (addr_cmp v u)) (stood_now v) (stood_before v)
    put_at None v is = peer_stands site p routes peers v ∙ none_by (is_eq (addr_cmp v u)) v refl is
    put_at (Some x) v is =
        let with_sender = peer_found site.sessions u x is in
        put_one site p x (Some attr) old (FromPeer v)
        ∙ ap (λ w. cond (is_eq (addr_cmp v w)) (option_or (stood site p x (Some attr)) (standing_from old (FromPeer v)))
        (standing_from old (FromPeer v))) with_sender
        ∙ ap (λ (w : Option Standing). cond (is_eq (addr_cmp v u)) (option_or (stood site p x (Some attr)) w) w)
        (peer_stands site p routes peers v)
        ∙ some_by (is_eq (addr_cmp v u)) x v refl is

    pub updated_at : (q : Source) → standing_from (standings_after site u (Update p attr) old) q
        ≡ standing_from (standings_by site p (with_news u (Update p attr) routes)) q
    updated_at Own = own_put (session_with site u) ∙ own_stands site p routes
        ∙ sym (own_stands site p (with_news u (Update p attr) routes))
    updated_at (FromPeer v) =
        put_at (session_with site u) v refl
        ∙ sym (restands site u (Update p attr) routes peers order (session_with site v) v refl)
        ∙ sym (peer_stands site p (with_news u (Update p attr) routes) peers v)

  none_told : (o : Option SiteSession) → None ≡ stood_or site p o (λ _. None) None
  none_told None = refl
  none_told (Some x) = refl

  pub withdrawn_at : (q : Source) → standing_from (standings_after site u (Withdraw p) old) q
      ≡ standing_from (standings_by site p (with_news u (Withdraw p) routes)) q
  withdrawn_at Own =
      finite.get-remove source_total old.known (FromPeer u) Own
      ∙ own_stands site p routes
      ∙ sym (own_stands site p (with_news u (Withdraw p) routes))
  withdrawn_at (FromPeer v) =
      finite.get-remove source_total old.known (FromPeer u) (FromPeer v)
      ∙ ap (λ (w : Option Standing). cond (is_eq (addr_cmp v u)) None w) (peer_stands site p routes peers v)
      ∙ ap (λ (w : Option Standing). cond (is_eq (addr_cmp v u)) w (stood_before v)) (none_told (session_with site v))
      ∙ sym (restands site u (Withdraw p) routes peers order (session_with site v) v refl)
      ∙ sym (peer_stands site p (with_news u (Withdraw p) routes) peers v)

-- HOW THEY ARE COMPARED

-- as the site says
pub compares_as : (site : SiteConf) (p : Prefix) (routes : List (Addr × Attr)) →
    (standings_by site p routes).med_always ≡ site.med_always
compares_as site p routes =
    added_always (no_standings site.med_always)
    (own_standings site p ++ filter_map (standing_of site p routes) site.sessions)

-- a message leaves that
pub compares_after : (site : SiteConf) (u : Addr) (m : Message) (standings : Standings) →
    (standings_after site u m standings).med_always ≡ standings.med_always
compares_after site u (Withdraw p) standings = refl
compares_after site u (Update p attr) standings = by (session_with site u)
  where
    by : (o : Option SiteSession) →
        (option_map_or (λ x. added standings (option_to_list (standing_over site p x (Some attr)))) o
        standings).med_always ≡ standings.med_always
    by None = refl
    by (Some x) = added_always standings (option_to_list (standing_over site p x (Some attr)))

-- TAKEN

stands_then : (site : SiteConf) (u : Addr) (m : Message) (routes : List (Addr × Attr)) → ArePeersInOrder site.sessions →
    AreInOrder routes → (q : Source)
    → standing_from (standings_after site u m (standings_by site (prefix_of m) routes)) q
    ≡ standing_from (standings_by site (prefix_of m) (with_news u m routes)) q
stands_then site u (Update p attr) routes peers order = updated_at site u p routes peers order attr
stands_then site u (Withdraw p) routes peers order = withdrawn_at site u p routes peers order

-- a message taken into the standings makes them those of what has been received then
pub taken : (site : SiteConf) (u : Addr) (m : Message) (routes : List (Addr × Attr)) → ArePeersInOrder site.sessions →
    AreInOrder routes → standings_after site u m (standings_by site (prefix_of m) routes)
    ≡ standings_by site (prefix_of m) (with_news u m routes)
taken site u m routes peers order =
    same_standings (standings_after site u m (standings_by site (prefix_of m) routes))
    (standings_by site (prefix_of m) (with_news u m routes)) (stands_then site u m routes peers order)
    (compares_after site u m (standings_by site (prefix_of m) routes) ∙ compares_as site (prefix_of m) routes
    ∙ sym (compares_as site (prefix_of m) (with_news u m routes)))
