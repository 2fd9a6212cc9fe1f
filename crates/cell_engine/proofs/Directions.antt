-- The directions of sessions after an edit, and the queues that they have in the network.
use Rattle.std.proofs.Common.{◌≡◌, Bool, true, false, cond, ◌&&◌, ◌||◌, ◌==◌, List, [], ◌∷◌, ◌++◌, map, filter, Option, Some, None, option_map, is_some, unwrap_or, if◌then◌else◌, refl, sym, ap, ◌∙◌}
use Rattle.std.proofs.lemmas.Bool.{true≢false, false_from_ne_true, or_parts}
use Rattle.std.proofs.lemmas.Map.Lookups.{CmpEqualImpliesEq, exact_pairs}
use Rattle.std.specs.declared.cmp.Ordering.{Ordering}
use Rattle.std.specs.declared.cmp.Ordering.TheVariants.{Less, Equal, Greater}
use Rattle.std.specs.Ordering.{is_lt, is_gt, is_eq, match_ordering}
use Rattle.std.specs.Cmp.{unsigned_ties, both_tied}
use Rattle.std.specs.List.{AllByRecursion, list_any}
use Rattle.std.specs.List.Sorted.{IsStrictlySortedBy}
use Rattle.std.specs.BTreeSet.{insert_key}
use Rattle.net_prefix.specs.declared.addr.Addr.{Addr}
use Rattle.net_prefix.specs.Address.{same_addr, addr_cmp}
use Rattle.net_prefix.specs.Orders.{addr_exact}
use Rattle.session_queue.specs.declared.message.Message.{Message}
use Rattle.session_queue.specs.declared.direction.Direction.{Direction}
use Rattle.session_queue.specs.Waiting.{Queues, direction_cmp, queue_at}
use Rattle.session_queue.proofs.Places.{direction_total}
use Rattle.net_conf.specs.Configuration.{Configuration, session_between, has_session}
use Rattle.net_conf.specs.Costs.{session_up, is_connected, is_up}
use Rattle.net_conf.specs.Edits.{edited}
use Rattle.net_conf.specs.declared.edit.Edit.{Edit}
use Rattle.net_conf.specs.declared.edit.Edit.TheVariants.{Join}
use Rattle.reference_machine.specs.declared.rows.Queue.{Queue}
use Rattle.reference_machine.specs.Network.{with_direction, with_more}
use Rattle.reference_machine.specs.Machine.{with_queues, emptied}
use Rattle.cell_engine.specs.State.{queue_of, is_direction}
use Rattle.cell_engine.specs.Editing.{with_directions, left_at}
use Rattle.cell_engine.proofs.Picks.{sorted_inserted}
use Rattle.cell_engine.proofs.AcceptedEdits.{Passes, joins, session_either, session_edited, same_pair, any_inserted}

-- KEYS

abbrev pub direction : Addr → Addr → Direction
direction a b = record { from = a; to = b }

pub direction_exact : CmpEqualImpliesEq direction_cmp
direction_exact d e is =
    let pair : Addr × Addr → Direction = λ parts. record { from = parts.0; to = parts.1 } in
    ap pair (exact_pairs addr_cmp addr_cmp addr_exact addr_exact (d.from, d.to) (e.from, e.to) is)

direction_tied : (d e : Direction) → is_direction d e ≡ is_eq (direction_cmp d e)
direction_tied d e = both_tied _ _ _ _ (unsigned_ties d.from.0 e.from.0) (unsigned_ties d.to.0 e.to.0)

-- THE DIRECTIONS ARE THOSE OF THE SESSIONS

or_parts_in : (a b c d : Bool) → a ≡ (b || c) → (b || (c || d)) ≡ (a || d)
or_parts_in a true c d is = ap (λ x. x || d) (sym is)
or_parts_in a false c d is = ap (λ x. x || d) (sym is)

-- what is among the directions after the edit
pub any_joined : (e : Edit) (d : Direction) (ds : List Direction) → list_any (is_direction d) (with_directions e ds)
    ≡ (joins e d.from d.to || list_any (is_direction d) ds)
any_joined (Join a b) d ds =
    any_inserted direction_exact (is_direction d) (direction a b) (insert_key direction_cmp ds (direction b a))
    ∙ ap (λ x. is_direction d (direction a b) || x) (any_inserted direction_exact (is_direction d) (direction b a) ds)
    ∙ or_parts_in (joins (Join a b) d.from d.to) (is_direction d (direction a b)) (is_direction d (direction b a))
    (list_any (is_direction d) ds) (same_pair d.from d.to a b)
any_joined e d ds = refl

pub joined_sessions : (c : Configuration) (e : Edit) → Passes c e → (ds : List Direction) →
    ((d : Direction) → list_any (is_direction d) ds ≡ has_session c d.from d.to) → (d : Direction) →
    list_any (is_direction d) (with_directions e ds) ≡ has_session (edited c e) d.from d.to
joined_sessions c e ok ds are d = any_joined e d ds ∙ ap (λ b. joins e d.from d.to || b) (are d)
    ∙ sym (session_edited c e ok d.from d.to)

pub joined_in_order : (e : Edit) (ds : List Direction) → IsStrictlySortedBy direction_cmp ds →
    IsStrictlySortedBy direction_cmp (with_directions e ds)
joined_in_order (Join a b) ds sorted =
    sorted_inserted direction_total direction_exact (direction a b) (insert_key direction_cmp ds (direction b a))
    (sorted_inserted direction_total direction_exact (direction b a) ds sorted)
joined_in_order e ds sorted = sorted

-- A QUEUE FOR A NEW DIRECTION

module _ (q : Queues) (d : Direction) where
  abbrev before : List Direction → List Queue
  before ds = filter (λ x. is_gt (direction_cmp d x.of)) (map (queue_of q) ds)

  abbrev after : List Direction → List Queue
  after ds = filter (λ x. is_lt (direction_cmp d x.of)) (map (queue_of q) ds)

  -- all directions come after it
  none_before : (ds : List Direction) → AllByRecursion (λ y. direction_cmp d y ≡ Less) ds → before ds ≡ []
  none_before [] all = refl
  none_before (x ∷ xs) all = ap (λ o. cond (is_gt o) (queue_of q x ∷ before xs) (before xs)) all.0
      ∙ none_before xs all.1

  all_after : (ds : List Direction) → AllByRecursion (λ y. direction_cmp d y ≡ Less) ds → after ds ≡ map (queue_of q) ds
  all_after [] all = refl
  all_after (x ∷ xs) all = ap (λ o. cond (is_lt o) (queue_of q x ∷ after xs) (after xs)) all.0
      ∙ ap (λ l. queue_of q x ∷ l) (all_after xs all.1)

  past : (x : Direction) (xs : List Direction) → direction_cmp d x ≡ Less →
      AllByRecursion (λ y. direction_cmp x y ≡ Less) xs → AllByRecursion (λ y. direction_cmp d y ≡ Less) xs
  past x [] is all = tt
  past x (y ∷ ys) is all = (direction_total.trans d x y is all.0, past x ys is all.1)

  module _ (empty : queue_at q d.from d.to ≡ []) where
    abbrev Placed : List Direction → Type 0
    Placed ds = with_direction d (map (queue_of q) ds) ≡ map (queue_of q) (insert_key direction_cmp ds d)

    new_queue : ◌≡◌ {A = Queue} (record { of = d; messages = [] }) (queue_of q d)
    new_queue = λ i. record { of = d; messages = sym empty i }

    placed_by : (r : Ordering) (x : Direction) (xs : List Direction) → direction_cmp d x ≡ r →
        is_direction d x ≡ false → AllByRecursion (λ y. direction_cmp x y ≡ Less) xs → Placed xs →
        (cond (is_gt r) (queue_of q x ∷ before xs) (before xs))
        ++ (record { of = d; messages = [] } ∷ cond (is_lt r) (queue_of q x ∷ after xs) (after xs))
        ≡ map (queue_of q) (match_ordering r (d ∷ x ∷ xs) (x ∷ xs) (x ∷ insert_key direction_cmp xs d))
    placed_by Less x xs is other all rest =
        let later = past x xs is all in
        λ i. none_before xs later i ++ (new_queue i ∷ queue_of q x ∷ all_after xs later i)
    placed_by Equal x xs is other all rest = absurd (true≢false (sym (direction_tied d x ∙ ap is_eq is) ∙ other))
    placed_by Greater x xs is other all rest = ap (λ l. queue_of q x ∷ l) rest

    -- an empty queue comes to its place
    queue_placed : (ds : List Direction) → IsStrictlySortedBy direction_cmp ds → list_any (is_direction d) ds ≡ false →
        Placed ds
    unfolding IsStrictlySortedBy
    queue_placed [] sorted none = λ i. new_queue i ∷ []
    queue_placed (x ∷ xs) sorted none =
        let parts = or_parts (is_direction d x) (list_any (is_direction d) xs) none in
        placed_by (direction_cmp d x) x xs refl parts.0 sorted.0 (queue_placed xs sorted.1 parts.1)

-- THE EDIT

swapped_apart : (a b : Addr) → (a.0 == b.0) ≡ false → is_direction (direction a b) (direction b a) ≡ false
swapped_apart a b two = ap (λ x. x && same_addr b a) two

module _ (c : Configuration) (q : Queues) (ds : List Direction) (sorted : IsStrictlySortedBy direction_cmp ds)
    (are : (d : Direction) → list_any (is_direction d) ds ≡ has_session c d.from d.to) (silent : (f t : Addr) →
    has_session c f t ≡ false → queue_at q f t ≡ []) where
  -- the queues of a new session come to their places
  pub queues_joined : (e : Edit) → Passes c e →
      with_queues e (map (queue_of q) ds) ≡ map (queue_of q) (with_directions e ds)
  queues_joined (Join a b) ok =
      let back : has_session c b a ≡ false = session_either c b a ∙ ok.apart in
      let first = insert_key direction_cmp ds (direction b a) in
      ap (with_direction (direction a b)) (queue_placed q (direction b a) (silent b a back) ds sorted
      (are (direction b a) ∙ back))
      ∙ queue_placed q (direction a b) (silent a b ok.apart) first
      (sorted_inserted direction_total direction_exact (direction b a) ds sorted)
      (any_inserted direction_exact (is_direction (direction a b)) (direction b a) ds
      ∙ (λ i. swapped_apart a b ok.two i || (are (direction a b) ∙ ok.apart) i))
  queues_joined e ok = refl

-- WHAT IS LEFT ON ITS WAY

some_if_up : (o : Option Bool) (g : Bool → Bool) → unwrap_or (option_map g o) false ≡ true → is_some o ≡ true
some_if_up None g h = h
some_if_up (Some b) g h = refl

-- what is up is a session
pub session_if_up : (c : Configuration) (a b : Addr) → is_up c a b ≡ true → has_session c a b ≡ true
unfolding session_up
session_if_up c a b up = some_if_up (session_between c a b) (λ enabled. enabled && is_connected c a b) up

pub down_without_session : (c : Configuration) (a b : Addr) → has_session c a b ≡ false → is_up c a b ≡ false
down_without_session c a b alone =
    false_from_ne_true (is_up c a b) (λ up. true≢false (sym (session_if_up c a b up) ∙ alone))

pub none_left : (c : Configuration) (q : Queues) (f t : Addr) → has_session c f t ≡ false → left_at c q f t ≡ []
none_left c q f t alone = ap (λ b. if b then queue_at q f t else []) (down_without_session c f t alone)

module _ (c : Configuration) (q : Queues) where
  left_by : (x : Direction) (up : Bool) →
      ◌≡◌ {A = Queue} (record { of = x; messages = if up then queue_at q x.from x.to else [] }) (if up then queue_of q x
      else record { of = x; messages = [] })
  left_by x true = refl
  left_by x false = refl

  pub queues_left : (r : Queues) → ((f t : Addr) → queue_at r f t ≡ left_at c q f t) → (ds : List Direction) →
      map (queue_of r) ds ≡ map (emptied c) (map (queue_of q) ds)
  queues_left r is [] = refl
  queues_left r is (x ∷ xs) =
      let here : ◌≡◌ {A = Queue} (queue_of r x) (record { of = x; messages = left_at c q x.from x.to }) =
      λ i. record { of = x; messages = is x.from x.to i } in
      λ i. (here ∙ left_by x (is_up c x.from x.to)) i ∷ queues_left r is xs i

  module _ (more : Addr → Addr → List Message) where
    more_by : (x : Direction) (up : Bool) →
        ◌≡◌ {A = Queue} (record { of = x; messages = (if up then queue_at q x.from x.to else []) ++ more x.from x.to })
        (let y : Queue = if up then queue_of q x else record { of = x; messages = [] } in
        with_more y (more y.of.from y.of.to))
    more_by x true = refl
    more_by x false = refl

    -- and what comes to the ends
    pub queues_left_and_more : (r : Queues) → ((f t : Addr) → queue_at r f t ≡ left_at c q f t ++ more f t) →
        (ds : List Direction) → map (queue_of r) ds ≡ map (λ y. with_more y (more y.of.from y.of.to))
        (map (emptied c) (map (queue_of q) ds))
    queues_left_and_more r is [] = refl
    queues_left_and_more r is (x ∷ xs) =
        let here : ◌≡◌ {A = Queue} (queue_of r x)
        (record { of = x; messages = left_at c q x.from x.to ++ more x.from x.to }) =
        λ i. record { of = x; messages = is x.from x.to i } in
        λ i. (here ∙ more_by x (is_up c x.from x.to)) i ∷ queues_left_and_more r is xs i
