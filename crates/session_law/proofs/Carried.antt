-- What holds of each route that comes over a session, after any run: what is fed and advertised has it, and edits keep
-- it.
use Rattle.std.proofs.Common.{◌≡◌, inl, inr, Bool, true, false, cond, List, [], ◌∷◌, ◌++◌, filter, Option, Some, None, find, option_map, is_some, if◌then◌else◌, All, refl, sym, ap, subst, ◌∙◌}
use Rattle.std.specs.List.{AllByRecursion, filter_map, cons_option}
use Rattle.std.specs.Ordering.{is_lt, is_gt}
use Rattle.std.specs.BTreeMap.{is_at}
use Rattle.std.proofs.lemmas.Bool.{true≢false, not-false}
use Rattle.std.proofs.lemmas.List.Elements.{All-from_recursion}
use Rattle.net_prefix.specs.declared.addr.Addr.{Addr}
use Rattle.net_prefix.specs.Prefix.{Prefix}
use Rattle.path_attr.specs.declared.attr.Attr.{Attr}
use Rattle.path_attr.specs.Attribute.{same_attr}
use Rattle.path_attr.specs.Number.{same_number}
use Rattle.path_attr.specs.Path.{neighbour}
use Rattle.session_queue.specs.declared.message.Message.{Message}
use Rattle.session_queue.specs.declared.message.Message.TheVariants.{Update, Withdraw}
use Rattle.session_queue.specs.declared.direction.Direction.{Direction}
use Rattle.session_queue.specs.Waiting.{direction_cmp}
use Rattle.net_conf.specs.declared.edit.Edit.{Edit}
use Rattle.net_conf.specs.declared.edit.Edit.TheVariants.{Join}
use Rattle.net_conf.specs.declared.tables.Node.{Node}
use Rattle.net_conf.specs.Configuration.{Configuration, node_at, has_node, as_of, is_external, has_session}
use Rattle.net_conf.specs.Costs.{is_up}
use Rattle.net_conf.specs.Edits.{refusal_of, edited}
use Rattle.sim_event.specs.declared.event.Event.{Event}
use Rattle.sim_event.specs.declared.event.Event.TheVariants.{Edit as AnEdit, Feed as AFeed, Deliver, Ask as AnAsk}
use Rattle.sim_event.specs.declared.event.Feed.{Feed}
use Rattle.sim_event.specs.declared.event.FedRoute.{FedRoute}
use Rattle.sim_event.specs.declared.event.News.{News}
use Rattle.sim_event.specs.declared.event.News.TheVariants.{Update as FedUpdate, Withdraw as FedWithdrawal}
use Rattle.sim_event.specs.declared.event.Ask.{Ask}
use Rattle.sim_event.specs.declared.reply.Reply.{Reply}
use Rattle.reference_machine.specs.declared.rows.RouteKey.{RouteKey}
use Rattle.reference_machine.specs.declared.rows.Queue.{Queue}
use Rattle.reference_machine.specs.Network.{Network, route_cmp, is_of, messages_in, with_direction, with_more, with_one_more, with_message, rest_of, without_its_head}
use Rattle.reference_machine.specs.Advertising.{advertised, change_of, sends, in_order, prefixes_at, changes, sent}
use Rattle.reference_machine.specs.Machine.{nothing, with_sent, with_queues, emptied, is_kept, reconfigured, after_edit, edit_step, has_foreign_first, fed_attr, fed_message, feed_refusal, feed_step, received_after, taken, head_step, delivery_refusal, delivery_step, ask_refusal, question_step, step, IsStep, IsRun}
use Rattle.session_law.specs.RouteLaws.{OfUpdate, EachRoute}
use Rattle.session_law.proofs.Lists.{each_so, each_joined, each_filtered, each_mapped, each_inserted, each_removed}
use Rattle.session_law.proofs.Keys.{same_ends_true, route_exact}
use Rattle.session_law.proofs.Routes.{at_route, looked_up}
use Rattle.session_law.proofs.Configs.{Passes, passes, all_fail, session_either, session_if_up, session_kept, none_alone, same_numbers, there_still}
use Rattle.session_law.proofs.Told.{direction, IsTidy, IsTold, sends_parts, told_nothing}
use Rattle.session_law.proofs.Steps.{turned_taken}
use Rattle.session_law.proofs.Edits.{turned_edited}
use Rattle.session_law.proofs.Foreign.{ArePlaced, AreForeign, foreign_kept}
use Rattle.session_law.proofs.Runs.{kept_unless, feed_tests, feeder, delivered_up, told_step}
use Rattle.session_law.proofs.Adverts.{GoesOut, IsOwn, ComesIn, IsReflected, ComesAbout, comes_about}

-- WHAT HAS IT

-- the two ends of a session
pub record AreEnds (c : Configuration) (a b : Addr) : Type 0 where
  pub sender : has_node c a ≡ true
  pub receiver : has_node c b ≡ true
  pub apart : a ≡ b → ⊥
  pub session : has_session c a b ≡ true

-- P holds of what is fed, and of what is advertised where it holds of what was received; and edits keep it
pub record IsKept (P : Configuration → Addr → Addr → Attr → Type 0) : Type 0 where
  pub fed : (c : Configuration) (v t : Addr) (r : FedRoute) → AreEnds c v t → is_external c v t ≡ true →
      neighbour r.path ≡ as_of c v → P c v t (fed_attr v r)
  pub after : (c : Configuration) (e : Edit) → Passes c e → ArePlaced c → (a b : Addr) (attr : Attr) → AreEnds c a b →
      P c a b attr → P (edited c e) a b attr
  pub out : (c : Configuration) (r t : Addr) (n : Node) (attr : Attr) → node_at c r ≡ Some n →
      GoesOut c r t n attr → P c r t attr
  pub own : (c : Configuration) (r t : Addr) (attr : Attr) → AreEnds c r t → IsOwn c r t attr → P c r t attr
  pub entered : (c : Configuration) (r t u : Addr) (old attr : Attr) → AreEnds c r t → AreEnds c u r → P c u r old →
      ComesIn c r t u old attr → P c r t attr
  pub back : (c : Configuration) (r t u : Addr) (old attr : Attr) → AreEnds c r t → AreEnds c u r → P c u r old →
      IsReflected c r t u old attr → P c r t attr

module _ (P : Configuration → Addr → Addr → Attr → Type 0) where
  abbrev pub Carries : Configuration → Addr → Addr → Attr → Type 0
  Carries c a b attr = AreEnds c a b × P c a b attr

  abbrev pub Received : Configuration → (RouteKey × Attr) → Type 0
  Received c e = Carries c e.0.from e.0.to e.1

  abbrev pub Waits : Configuration → Queue → Type 0
  Waits c q = AllByRecursion (OfUpdate (Carries c q.of.from q.of.to)) q.messages

-- it holds of each route that was received, and of each that is on its way; no router has a session with itself, and no
-- virtual peer one inside an AS
pub record IsCarried (P : Configuration → Addr → Addr → Attr → Type 0) (s : Network) : Type 0 where
  pub received : AllByRecursion (Received P s.conf) s.received
  pub on_way : AllByRecursion (Waits P s.conf) s.queues
  pub apart : (a : Addr) → has_session s.conf a a ≡ false
  pub foreign : AreForeign s.conf

-- FEEDS

-- a feed's path begins with its feeder's AS
feeds_own_as : (c : Configuration) (f : Feed) → feed_refusal c f ≡ None → has_foreign_first c f.from f.news ≡ false
unfolding feed_refusal
feeds_own_as c f none = (all_fail (feed_tests c f) none).1.1.1.1.0

-- SESSIONS

-- the two ends of a session that is up
ends_up : (s : Network) → IsTidy s → ((a : Addr) → has_session s.conf a a ≡ false) → (a b : Addr) →
    is_up s.conf a b ≡ true → AreEnds s.conf a b
ends_up s tidy alone a b up =
    let session = session_if_up s.conf a b up in
    record {
      sender = tidy.placed a b session;
      receiver = tidy.placed b a (session_either s.conf b a ∙ session);
      apart = λ e. true≢false (sym session ∙ ap (has_session s.conf a) (sym e) ∙ alone a);
      session = session;
    }

pub node_of : (o : Option Node) → is_some o ≡ true → (n : Node) × (o ≡ Some n)
node_of None h = absurd (true≢false (sym h))
node_of (Some n) h = (n, refl)

module _ (P : Configuration → Addr → Addr → Attr → Type 0) (kept : IsKept P) where
  -- ADVERTS

  advert_by : (s : Network) (r t : Addr) (p : Prefix) (n : Node) (attr : Attr) → AreEnds s.conf r t →
      AllByRecursion (Received P s.conf) s.received → node_at s.conf r ≡ Some n →
      ComesAbout s.conf r t n p s.received attr → P s.conf r t attr
  advert_by s r t p n attr ends received here (inl goes) = kept.out s.conf r t n attr here goes
  advert_by s r t p n attr ends received here (inr (inl own)) = kept.own s.conf r t attr ends own
  advert_by s r t p n attr ends received here (inr (inr (u, old, route, inl enters))) =
      let held = looked_up (Received P s.conf) r u p old s.received received route in
      kept.entered s.conf r t u old attr ends held.0 held.1 enters
  advert_by s r t p n attr ends received here (inr (inr (u, old, route, inr goes_back))) =
      let held = looked_up (Received P s.conf) r u p old s.received received route in
      kept.back s.conf r t u old attr ends held.0 held.1 goes_back

  advert_carries : (s : Network) (r t : Addr) (p : Prefix) (attr : Attr) → IsTidy s →
      ((a : Addr) → has_session s.conf a a ≡ false) → AllByRecursion (Received P s.conf) s.received →
      is_up s.conf r t ≡ true → advertised s r t p ≡ Some attr → Carries P s.conf r t attr
  advert_carries s r t p attr tidy alone received up is =
      let ends = ends_up s tidy alone r t up in
      let node = node_of (node_at s.conf r) ends.sender in
      (ends, advert_by s r t p node.0 attr ends received node.1 (comes_about s r t p node.0 attr node.1 is))

  -- SENDING

  module _ (Q : Attr → Type 0) where
    changed_by : (b : Bool) (p : Prefix) (attr : Attr) (ms : List Message) → Q attr → AllByRecursion (OfUpdate Q) ms →
        AllByRecursion (OfUpdate Q) (cons_option (if b then None else Some (Update p attr)) ms)
    changed_by true p attr ms h each = each
    changed_by false p attr ms h each = (h, each)

    changed : (p : Prefix) (old new : Option Attr) (ms : List Message) → ((attr : Attr) → new ≡ Some attr → Q attr) →
        AllByRecursion (OfUpdate Q) ms → AllByRecursion (OfUpdate Q) (cons_option (change_of p old new) ms)
    changed p None None ms h each = each
    changed p (Some old) None ms h each = (tt, each)
    changed p None (Some new) ms h each = (h new refl, each)
    changed p (Some old) (Some new) ms h each = changed_by (same_attr old new) p new ms (h new refl) each

    all_changed : (old new : Prefix → Option Attr) → ((p : Prefix) (attr : Attr) → new p ≡ Some attr → Q attr) →
        (ps : List Prefix) → AllByRecursion (OfUpdate Q) (filter_map (λ p. change_of p (old p) (new p)) ps)
    all_changed old new h [] = tt
    all_changed old new h (p ∷ ps) = changed p (old p) (new p) (filter_map (λ q. change_of q (old q) (new q)) ps) (h p)
        (all_changed old new h ps)

  changes_carry : (s s' : Network) (r t : Addr) → ((p : Prefix) (attr : Attr) → advertised s' r t p ≡ Some attr →
      Carries P s'.conf r t attr) → AllByRecursion (OfUpdate (Carries P s'.conf r t)) (changes s s' r t)
  unfolding changes
  changes_carry s s' r t h = all_changed (Carries P s'.conf r t) (advertised s r t) (advertised s' r t) h
      (in_order (prefixes_at s r ++ prefixes_at s' r))

  sent_by : (b : Bool) (s s' : Network) (r t : Addr) →
      (b ≡ true → AllByRecursion (OfUpdate (Carries P s'.conf r t)) (changes s s' r t)) →
      AllByRecursion (OfUpdate (Carries P s'.conf r t)) (if b then changes s s' r t else [])
  sent_by true s s' r t h = h refl
  sent_by false s s' r t h = tt

  module _ (s s' : Network) (tidy : IsTidy s') (received : AllByRecursion (Received P s'.conf) s'.received)
      (on_way : AllByRecursion (Waits P s'.conf) s'.queues) (alone : (a : Addr) → has_session s'.conf a a ≡ false)
      (foreign : AreForeign s'.conf) where
    sent_carries : (r t : Addr) → AllByRecursion (OfUpdate (Carries P s'.conf r t)) (sent s s' r t)
    unfolding sent
    sent_carries r t = sent_by (sends s'.conf r t) s s' r t
        (λ is. changes_carry s s' r t (λ p attr. advert_carries s' r t p attr tidy alone received
        (sends_parts s'.conf r t is).2))

    more_waits : (q : Queue) → Waits P s'.conf q → Waits P s'.conf (with_more q (sent s s' q.of.from q.of.to))
    more_waits q h = each_joined (OfUpdate (Carries P s'.conf q.of.from q.of.to)) q.messages
        (sent s s' q.of.from q.of.to) h (sent_carries q.of.from q.of.to)

    carried_sent : IsCarried P (with_sent s s')
    unfolding with_sent
    carried_sent = record {
      received = received;
      on_way = each_mapped (Waits P s'.conf) (Waits P s'.conf) (λ q. with_more q (sent s s' q.of.from q.of.to))
          more_waits s'.queues on_way;
      apart = alone;
      foreign = foreign;
    }

  -- EDITS

  module _ (c : Configuration) (e : Edit) (ok : Passes c e) (placed : ArePlaced c) where
    abbrev new : Configuration
    new = edited c e

    ends_still : (a b : Addr) → AreEnds c a b → AreEnds new a b
    ends_still a b ends = record {
      sender = there_still c e ok a ends.sender;
      receiver = there_still c e ok b ends.receiver;
      apart = ends.apart;
      session = session_kept c e a b ends.session;
    }

    carries_still : (a b : Addr) (attr : Attr) → Carries P c a b attr → Carries P new a b attr
    carries_still a b attr h = (ends_still a b h.0, kept.after c e ok placed a b attr h.0 h.1)

    said_still : (a b : Addr) (m : Message) → OfUpdate (Carries P c a b) m → OfUpdate (Carries P new a b) m
    said_still a b (Update p attr) h = carries_still a b attr h
    said_still a b (Withdraw p) h = h

    waits_still : (q : Queue) → Waits P c q → Waits P new q
    waits_still q h = each_so (OfUpdate (Carries P c q.of.from q.of.to)) (OfUpdate (Carries P new q.of.from q.of.to))
        (said_still q.of.from q.of.to) q.messages h

    emptied_by : (b : Bool) (q : Queue) → Waits P new q →
        Waits P new (if b then q else record { of = q.of; messages = [] })
    emptied_by true q h = h
    emptied_by false q h = tt

  with_empty : (c : Configuration) (d : Direction) (qs : List Queue) → AllByRecursion (Waits P c) qs →
      AllByRecursion (Waits P c) (with_direction d qs)
  with_empty c d qs h =
      each_joined (Waits P c) (filter (λ q. is_gt (direction_cmp d q.of)) qs) (record { of = d; messages = [] }
      ∷ filter (λ q. is_lt (direction_cmp d q.of)) qs)
      (each_filtered (Waits P c) (λ q. is_gt (direction_cmp d q.of)) qs h)
      (tt, each_filtered (Waits P c) (λ q. is_lt (direction_cmp d q.of)) qs h)

  queued : (c : Configuration) (e : Edit) (qs : List Queue) → AllByRecursion (Waits P c) qs →
      AllByRecursion (Waits P c) (with_queues e qs)
  queued c (Join a b) qs h = with_empty c (direction a b) (with_direction (direction b a) qs)
      (with_empty c (direction b a) qs h)
  queued c e qs h = h

  carried_edited : (s : Network) (e : Edit) → IsTold s → IsCarried P s → Passes s.conf e →
      IsCarried P (with_sent s (after_edit s e))
  unfolding reconfigured
  carried_edited s e told carried ok =
      let new = edited s.conf e in
      let placed = told.tidy.placed in
      carried_sent s (after_edit s e) (turned_edited s e told ok).tidy
      (each_filtered (Received P new) (is_kept new) s.received
      (each_so (Received P s.conf) (Received P new) (λ x. carries_still s.conf e ok placed x.0.from x.0.to x.1)
      s.received carried.received))
      (each_mapped (Waits P new) (Waits P new) (emptied new)
      (λ q. emptied_by s.conf e ok placed (is_up new q.of.from q.of.to) q) (with_queues e s.queues)
      (queued new e s.queues (each_so (Waits P s.conf) (Waits P new)
      (waits_still s.conf e ok placed) s.queues carried.on_way)))
      (none_alone s.conf e ok carried.apart)
      (foreign_kept s.conf e ok placed carried.foreign)

  -- DELIVERIES

  module _ (c : Configuration) (d : Direction) where
    head_gone : (b : Bool) (q : Queue) → Waits P c q →
        Waits P c (if b then record q { messages = rest_of q.messages } else q)
    head_gone true q h = gone q.messages h where
      gone : (ms : List Message) → AllByRecursion (OfUpdate (Carries P c q.of.from q.of.to)) ms →
          AllByRecursion (OfUpdate (Carries P c q.of.from q.of.to)) (rest_of ms)
      gone [] each = tt
      gone (m ∷ ms) each = each.1
    head_gone false q h = h

    got : (m : Message) (es : List (RouteKey × Attr)) → OfUpdate (Carries P c d.from d.to) m →
        AllByRecursion (Received P c) es → AllByRecursion (Received P c) (received_after d m es)
    got (Update p attr) es h each = each_inserted (Received P c) route_cmp route_exact
        (at_route d.to p d.from) attr es h each
    got (Withdraw p) es h each = each_removed (Received P c) (is_at (route_cmp (at_route d.to p d.from))) es each

    -- the head of what is on its way
    first_by : (b : Bool) (q : Queue) (later : Option (List Message)) (m : Message) (ms : List Message) →
        is_of d q ≡ b → Waits P c q → (later ≡ Some (m ∷ ms) → OfUpdate (Carries P c d.from d.to) m) →
        cond b (Some q.messages) later ≡ Some (m ∷ ms) → OfUpdate (Carries P c d.from d.to) m
    first_by true q later m ms is here there head =
        let same : q.of ≡ d = same_ends_true q.of d is in
        let messages : q.messages ≡ m ∷ ms = cc in
        (subst (λ x. AllByRecursion (OfUpdate (Carries P c x.from x.to)) (m ∷ ms)) same
        (subst (AllByRecursion (OfUpdate (Carries P c q.of.from q.of.to))) messages here)).0
    first_by false q later m ms is here there head = there head

    mapped_cond : (b : Bool) (q : Queue) (o : Option Queue) → option_map (λ x. x.messages) (cond b (Some q) o)
        ≡ cond b (Some q.messages) (option_map (λ x. x.messages) o)
    mapped_cond true q o = refl
    mapped_cond false q o = refl

    first_waits : (qs : List Queue) (m : Message) (ms : List Message) → AllByRecursion (Waits P c) qs →
        messages_in qs d ≡ Some (m ∷ ms) → OfUpdate (Carries P c d.from d.to) m
    first_waits [] m ms each head = absurd (nothing_there head) where
      nothing_there : None ≡ Some (m ∷ ms) → ⊥
      nothing_there e = cc
    first_waits (q ∷ qs) m ms each head = first_by (is_of d q) q (messages_in qs d) m ms refl each.0
        (first_waits qs m ms each.1) (sym (mapped_cond (is_of d q) q (find (is_of d) qs)) ∙ head)

  carried_taken : (s : Network) (d : Direction) (m : Message) (ms : List Message) → IsTold s → IsCarried P s →
      is_up s.conf d.from d.to ≡ true → messages_in s.queues d ≡ Some (m ∷ ms) → IsCarried P (with_sent s (taken s d m))
  unfolding taken
  carried_taken s d m ms told carried up head =
      carried_sent s (taken s d m) (turned_taken s d m ms told up head).tidy
      (got s.conf d m s.received (first_waits s.conf d s.queues m ms carried.on_way head) carried.received)
      (each_mapped (Waits P s.conf) (Waits P s.conf) (without_its_head d) (λ q. head_gone s.conf d (is_of d q) q)
      s.queues carried.on_way)
      carried.apart
      carried.foreign

  -- FEEDS

  one_more_waits : (c : Configuration) (d : Direction) (m : Message) → OfUpdate (Carries P c d.from d.to) m →
      (b : Bool) (q : Queue) → is_of d q ≡ b → Waits P c q → Waits P c (if b then with_more q (m ∷ []) else q)
  one_more_waits c d m said true q is h =
      each_joined (OfUpdate (Carries P c q.of.from q.of.to)) q.messages (m ∷ []) h
      (subst (λ x. OfUpdate (Carries P c x.from x.to) m) (sym (same_ends_true q.of d is)) said, tt)
  one_more_waits c d m said false q is h = h

  carried_fed : (s : Network) (d : Direction) (m : Message) → IsCarried P s →
      OfUpdate (Carries P s.conf d.from d.to) m → IsCarried P (record s { queues = with_message d m s.queues })
  carried_fed s d m carried said = record {
    received = carried.received;
    on_way = each_mapped (Waits P s.conf) (Waits P s.conf) (with_one_more d m)
        (λ q. one_more_waits s.conf d m said (is_of d q) q refl) s.queues carried.on_way;
    apart = carried.apart;
    foreign = carried.foreign;
  }

  news_carries : (c : Configuration) (v t : Addr) (news : News) → AreEnds c v t → is_external c v t ≡ true →
      has_foreign_first c v news ≡ false → OfUpdate (Carries P c v t) (fed_message v news)
  news_carries c v t (FedUpdate r) ends external first = (
    ends,
    kept.fed c v t r ends external
        (same_numbers (neighbour r.path) (as_of c v) (not-false (same_number (neighbour r.path) (as_of c v)) first)),
  )
  news_carries c v t (FedWithdrawal p) ends external first = tt

  -- STEPS

  step_edit : (s : Network) (e : Edit) → IsTold s → IsCarried P s → IsCarried P (edit_step s e).next
  unfolding edit_step
  step_edit s e told carried = kept_unless (IsCarried P) (refusal_of s.conf e) s _ carried
      (λ passed. carried_edited s e told carried (passes s.conf e passed))

  step_feed : (s : Network) (f : Feed) → IsTold s → IsCarried P s → IsCarried P (feed_step s f).next
  unfolding feed_step
  step_feed s f told carried =
      kept_unless (IsCarried P) (feed_refusal s.conf f) s _ carried (λ passed.
      let from = feeder s.conf f passed in
      let ends = ends_up s told.tidy carried.apart f.from f.to from.1 in
      let external = carried.foreign f.from f.to ends.session from.0 in
      carried_fed s (direction f.from f.to) (fed_message f.from f.news) carried
      (news_carries s.conf f.from f.to f.news ends external (feeds_own_as s.conf f passed)))

  step_head : (s : Network) (d : Direction) → IsTold s → IsCarried P s → is_up s.conf d.from d.to ≡ true →
      (o : Option (List Message)) → messages_in s.queues d ≡ o → IsCarried P (head_step s d o).next
  step_head s d told carried up None is = carried
  step_head s d told carried up (Some []) is = carried
  step_head s d told carried up (Some (m ∷ ms)) is = carried_taken s d m ms told carried up is

  step_delivery : (s : Network) (d : Direction) → IsTold s → IsCarried P s → IsCarried P (delivery_step s d).next
  unfolding delivery_step
  step_delivery s d told carried =
      kept_unless (IsCarried P) (delivery_refusal s.conf d) s (head_step s d (messages_in s.queues d)) carried
      (λ passed. step_head s d told carried (delivered_up s.conf d passed) (messages_in s.queues d) refl)

  step_question : (s : Network) (q : Ask) → IsCarried P s → IsCarried P (question_step s q).next
  unfolding question_step
  step_question s q carried = kept_unless (IsCarried P) (ask_refusal s.conf q) s _ carried (λ passed. carried)

  carried_step : (s : Network) (e : Event) → IsTold s → IsCarried P s → IsCarried P (step s e).next
  carried_step s (AnEdit e) told carried = step_edit s e told carried
  carried_step s (AFeed f) told carried = step_feed s f told carried
  carried_step s (Deliver a b) told carried = step_delivery s (direction a b) told carried
  carried_step s (AnAsk q) told carried = step_question s q carried

  carried_on : (s mid : Network) (e : Event) (r : Reply) → IsTold s → IsCarried P s → IsStep s e r mid → IsCarried P mid
  carried_on s mid e r told carried (inl own) = subst (IsCarried P) (sym own.1) (carried_step s e told carried)
  carried_on s mid e r told carried (inr none) = subst (IsCarried P) (sym none.1) carried

  -- RUNS

  carried_run : (es : List Event) (rs : List Reply) (s s' : Network) → IsTold s → IsCarried P s →
      IsRun s es rs s' → IsCarried P s'
  carried_run [] [] s s' told carried run = subst (IsCarried P) (sym run) carried
  carried_run [] (r ∷ rs) s s' told carried run = absurd run
  carried_run (e ∷ es) [] s s' told carried run = absurd run
  carried_run (e ∷ es) (r ∷ rs) s s' told carried (mid, one, later) =
      carried_run es rs mid s' (told_step s mid e r told one) (carried_on s mid e r told carried one) later

  carried_nothing : IsCarried P nothing
  carried_nothing = record {
    received = tt;
    on_way = tt;
    apart = λ a. refl;
    foreign = λ a b session virtual. absurd (true≢false (sym session));
  }

  -- it holds of each route that comes over a session, after any run
  pub carried_after : (es : List Event) (rs : List Reply) (s : Network) → IsRun nothing es rs s → IsCarried P s
  carried_after es rs s run = carried_run es rs nothing s told_nothing carried_nothing run

-- IN THE LAW'S WORDS

module _ (P : Configuration → Addr → Addr → Attr → Type 0) (Q : Addr → Addr → Attr → Type 0) (s : Network)
    (so : (a b : Addr) (attr : Attr) → AreEnds s.conf a b → P s.conf a b attr → Q a b attr) where
  said_so : (a b : Addr) (m : Message) → OfUpdate (Carries P s.conf a b) m → OfUpdate (Q a b) m
  said_so a b (Update p attr) h = so a b attr h.0 h.1
  said_so a b (Withdraw p) h = h

  waits_so : (q : Queue) → Waits P s.conf q → All (OfUpdate (Q q.of.from q.of.to)) q.messages
  waits_so q h = All-from_recursion (OfUpdate (Q q.of.from q.of.to)) q.messages
      (each_so (OfUpdate (Carries P s.conf q.of.from q.of.to)) (OfUpdate (Q q.of.from q.of.to))
      (said_so q.of.from q.of.to) q.messages h)

  -- what is carried, of each route that came over a session
  pub each_route : IsCarried P s → EachRoute s Q
  each_route carried = record {
    received = All-from_recursion (λ e. Q e.0.from e.0.to e.1) s.received
        (each_so (Received P s.conf) (λ e. Q e.0.from e.0.to e.1) (λ e h. so e.0.from e.0.to e.1 h.0 h.1)
        s.received carried.received);
    on_way = All-from_recursion (λ q. All (OfUpdate (Q q.of.from q.of.to)) q.messages) s.queues
        (each_so (Waits P s.conf) (λ q. All (OfUpdate (Q q.of.from q.of.to)) q.messages) waits_so
        s.queues carried.on_way);
  }
