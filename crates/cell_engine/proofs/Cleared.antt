-- What is left once the queues over some sessions are cleared.
use Rattle.std.proofs.Common.{◌≡◌, ℕ, ◌+◌, ◌<◌, Bool, true, false, not, ◌&&◌, ◌||◌, nat_le, List, [], ◌∷◌, ◌++◌, take, length, get_or, Option, Some, None, All, if◌then◌else◌, refl, sym, ap, ◌∙◌}
use Rattle.std.specs.Cmp.{unsigned_ties}
use Rattle.std.specs.declared.cmp.Ordering.{Ordering}
use Rattle.std.specs.declared.cmp.Ordering.TheVariants.{Less, Equal, Greater}
use Rattle.std.specs.Ordering.{is_lt, ordering_reverse}
use Rattle.std.specs.List.{list_any}
use Rattle.std.specs.BTreeMap.{is_at}
use Rattle.std.proofs.lemmas.Bool.{true≢false}
use Rattle.std.proofs.lemmas.List.Elements.{All-head, All-tail, filter_passes}
use Rattle.std.proofs.lemmas.List.{append-nil, take_more}
use Rattle.std.proofs.lemmas.List.Concat.{flat_map-append}
use Rattle.std.proofs.lemmas.List.Folds.{list_any_more, list_any-append}
use Rattle.std.specs.Map.{keys_of}
use Rattle.net_prefix.specs.declared.addr.Addr.{Addr}
use Rattle.net_prefix.specs.Address.{same_addr}
use Rattle.session_queue.specs.declared.direction.Direction.{Direction}
use Rattle.session_queue.specs.Waiting.{Queues, direction_cmp, queue_at, spare_at, same_direction, IsPast, KeepsOthers, SkipsNone}
use Rattle.session_queue.proofs.Places.{direction_total}
use Rattle.shared_map.specs.Chunks.{keys_in}
use Rattle.net_conf.specs.declared.tables.Ends.{Ends}
use Rattle.net_conf.specs.Configuration.{Configuration, ends_of, ends_cmp, has_session}
use Rattle.net_conf.specs.Costs.{is_up, down_sessions}
use Rattle.net_conf.proofs.Concerns.{up_turned}
use Rattle.net_conf.proofs.DownSessions.{is_down, among_if_down, session_there, up_of_ends}
use Rattle.net_conf.proofs.KeptTrees.{same_address, same_ends, or_right, found_itself}
use Rattle.cell_engine.specs.Edits.{is_of}
use Rattle.cell_engine.proofs.Directions.{direction_exact}
use Rattle.cell_engine.proofs.Offers.{same_addr_itself}

-- ONE SESSION

either_cleared : {X : Type 0} (t u : Bool) (q : List X) →
    (if u then [] else if t then [] else q) ≡ (if t || u then [] else q)
either_cleared true true q = refl
either_cleared true false q = refl
either_cleared false true q = refl
either_cleared false false q = refl

-- one direction cleared
one_cleared : (from to : Addr) (q r : Queues) → queue_at r from to ≡ [] → KeepsOthers from to q r → (f t : Addr) →
    queue_at r f t ≡ (if same_direction from to f t then [] else queue_at q f t)
one_cleared from to q r none keeps f t = by (same_addr f from) (same_addr t to) refl refl
  where
    by : (first second : Bool) → same_addr f from ≡ first → same_addr t to ≡ second →
        queue_at r f t ≡ (if same_addr f from && same_addr t to then [] else queue_at q f t)
    by true true is is' = ap (λ x. queue_at r x t) (same_address f from is)
        ∙ ap (queue_at r from) (same_address t to is') ∙ none ∙ sym (λ i. if is i && is' i then [] else queue_at q f t)
    by true false is is' = keeps.queue f t (λ i. is i && is' i)
        ∙ sym (λ i. if is i && is' i then [] else queue_at q f t)
    by false second is is' = keeps.queue f t (λ i. is i && same_addr t to)
        ∙ sym (λ i. if is i && same_addr t to then [] else queue_at q f t)

one_kept : (from to : Addr) (q r : Queues) → spare_at r from to ≡ spare_at q from to → KeepsOthers from to q r →
    (f t : Addr) → spare_at r f t ≡ spare_at q f t
one_kept from to q r same keeps f t = by (same_addr f from) (same_addr t to) refl refl
  where
    by : (first second : Bool) → same_addr f from ≡ first → same_addr t to ≡ second → spare_at r f t ≡ spare_at q f t
    by true true is is' =
        ap (λ x. spare_at r x t) (same_address f from is) ∙ ap (spare_at r from) (same_address t to is')
        ∙ same
        ∙ sym (ap (λ x. spare_at q x t) (same_address f from is) ∙ ap (spare_at q from) (same_address t to is'))
    by true false is is' = keeps.spare f t (λ i. is i && is' i)
    by false second is is' = keeps.spare f t (λ i. is i && same_addr t to)

module _ (e : Ends) (q r s : Queues) (keeps : KeepsOthers e.low e.high q r)
    (keeps' : KeepsOthers e.high e.low r s) where
  pub both_cleared : queue_at r e.low e.high ≡ [] → queue_at s e.high e.low ≡ [] → (f t : Addr) →
      queue_at s f t ≡ (if is_of f t e then [] else queue_at q f t)
  both_cleared none none' f t =
      one_cleared e.high e.low r s none' keeps' f t
      ∙ ap (λ x. if same_direction e.high e.low f t then [] else x) (one_cleared e.low e.high q r none keeps f t)
      ∙ either_cleared (same_direction e.low e.high f t) (same_direction e.high e.low f t) (queue_at q f t)

  pub both_kept : spare_at r e.low e.high ≡ spare_at q e.low e.high →
      spare_at s e.high e.low ≡ spare_at r e.high e.low → (f t : Addr) → spare_at s f t ≡ spare_at q f t
  both_kept same same' f t = one_kept e.high e.low r s same' keeps' f t ∙ one_kept e.low e.high q r same keeps f t

-- one session more
pub one_more_cleared : (f t : Addr) (es : List Ends) (i : ℕ) (d : Ends) → i < length es → (q : Queues) →
    (if is_of f t (get_or es i d) then [] else if list_any (is_of f t) (take i es) then [] else queue_at q f t)
    ≡ (if list_any (is_of f t) (take (i + 1) es) then [] else queue_at q f t)
one_more_cleared f t es i d lt q =
    either_cleared (list_any (is_of f t) (take i es)) (is_of f t (get_or es i d)) (queue_at q f t)
    ∙ ap (λ b. if b then [] else queue_at q f t) (sym (list_any_more (is_of f t) es i d lt))

-- the sessions of one list more
pub one_list_cleared : (f t : Addr) (lists : List (List Ends)) (i : ℕ) (d : List Ends) → i < length lists →
    (q : Queues) → (if list_any (is_of f t) (get_or lists i d) then []
    else if list_any (is_of f t) (keys_in (take i lists)) then [] else queue_at q f t)
    ≡ (if list_any (is_of f t) (keys_in (take (i + 1) lists)) then [] else queue_at q f t)
one_list_cleared f t lists i d lt q =
    let here = get_or lists i d in
    let more : keys_in (take (i + 1) lists) ≡ keys_in (take i lists) ++ here =
    ap keys_in (take_more lists i d lt) ∙ flat_map-append (λ es. es) (take i lists) (here ∷ [])
    ∙ ap (λ es. keys_in (take i lists) ++ es) (append-nil here) in
    either_cleared (list_any (is_of f t) (keys_in (take i lists))) (list_any (is_of f t) here) (queue_at q f t)
    ∙ ap (λ b. if b then [] else queue_at q f t)
    (sym (ap (list_any (is_of f t)) more ∙ list_any-append (is_of f t) (keys_in (take i lists)) here))

-- THE SESSIONS THAT ARE DOWN

-- the session of two is up where it is by its ends
up_of_its : (c : Configuration) (f t : Addr) (e : Ends) → is_of f t e ≡ true → is_up c f t ≡ is_up c e.low e.high
up_of_its c f t e is = by (same_addr f e.low) (same_addr t e.high) (same_addr f e.high)
    (same_addr t e.low) refl refl refl refl is
  where
    by : (p q u v : Bool) → same_addr f e.low ≡ p → same_addr t e.high ≡ q → same_addr f e.high ≡ u →
        same_addr t e.low ≡ v → ((p && q) || (u && v)) ≡ true → is_up c f t ≡ is_up c e.low e.high
    by true true u v at at' back back' it = ap (λ x. is_up c x t) (same_address f e.low at)
        ∙ ap (is_up c e.low) (same_address t e.high at')
    by true false true true at at' back back' it = ap (λ x. is_up c x t) (same_address f e.high back)
        ∙ ap (is_up c e.high) (same_address t e.low back') ∙ up_turned c e.high e.low
    by false q true true at at' back back' it = ap (λ x. is_up c x t) (same_address f e.high back)
        ∙ ap (is_up c e.high) (same_address t e.low back') ∙ up_turned c e.high e.low
    by true false true false at at' back back' it = absurd (true≢false (sym it))
    by true false false v at at' back back' it = absurd (true≢false (sym it))
    by false q true false at at' back back' it = absurd (true≢false (sym it))
    by false q false v at at' back back' it = absurd (true≢false (sym it))

none_of : (c : Configuration) (f t : Addr) → is_up c f t ≡ true → (es : List Ends) → All (λ e. is_down c e ≡ true) es →
    list_any (is_of f t) es ≡ false
none_of c f t up [] all = refl
none_of c f t up (e ∷ es) all =
    by (is_of f t e) refl (none_of c f t up es (All-tail (λ x. is_down c x ≡ true) e es all))
  where
    by : (b : Bool) → is_of f t e ≡ b → list_any (is_of f t) es ≡ false →
        (is_of f t e || list_any (is_of f t) es) ≡ false
    by true is rest = absurd (true≢false (sym (All-head (λ x. is_down c x ≡ true) e es all)
        ∙ ap not (sym (up_of_its c f t e is) ∙ up)))
    by false is rest = λ i. is i || rest i

-- over a session that is up nothing is cleared
pub up_is_none : (c : Configuration) (f t : Addr) → is_up c f t ≡ true → list_any (is_of f t) (down_sessions c) ≡ false
up_is_none c f t up = none_of c f t up (down_sessions c) (filter_passes (is_down c) (keys_of c.sessions))

of_its_ends : (f t : Addr) → is_of f t (ends_of f t) ≡ true
of_its_ends f t = by (nat_le f.0 t.0)
  where
    itself : (a : Addr) → same_addr a a ≡ true
    itself a = unsigned_ties a.0 a.0 ∙ found_itself a

    by : (le : Bool) → is_of f t (if le then record { low = f; high = t } else record { low = t; high = f }) ≡ true
    by true = λ i. (itself f i && itself t i) || (same_addr f t && same_addr t f)
    by false = or_right (same_addr f t && same_addr t f) (λ i. itself f i && itself t i)

any_of : (f t : Addr) (es : List Ends) → list_any (is_at (ends_cmp (ends_of f t))) es ≡ true →
    list_any (is_of f t) es ≡ true
any_of f t [] any = absurd (true≢false (sym any))
any_of f t (e ∷ es) any = by (is_at (ends_cmp (ends_of f t)) e) refl any (any_of f t es)
  where
    by : (b : Bool) → is_at (ends_cmp (ends_of f t)) e ≡ b →
        (is_at (ends_cmp (ends_of f t)) e || list_any (is_at (ends_cmp (ends_of f t))) es) ≡ true →
        (list_any (is_at (ends_cmp (ends_of f t))) es ≡ true → list_any (is_of f t) es ≡ true) →
        (is_of f t e || list_any (is_of f t) es) ≡ true
    by true is it rest = ap (λ b. b || list_any (is_of f t) es) (sym (ap (is_of f t) (same_ends (ends_of f t) e is))
        ∙ of_its_ends f t)
    by false is it rest = or_right (is_of f t e)
        (rest (sym (ap (λ b. b || list_any (is_at (ends_cmp (ends_of f t))) es) is) ∙ it))

-- and over each that is down all is
pub down_is_one : (c : Configuration) (f t : Addr) → has_session c f t ≡ true → is_up c f t ≡ false →
    list_any (is_of f t) (down_sessions c) ≡ true
down_is_one c f t there down = any_of f t (down_sessions c) (among_if_down c (ends_of f t) (session_there c f t there)
    ∙ ap not (up_of_ends c f t ∙ down))

-- what was empty is empty still
pub empty_still : {X : Type 0} (t : Bool) (q : List X) → q ≡ [] → (if t then [] else q) ≡ []
empty_still true q is = refl
empty_still false q is = is

-- THE DIRECTIONS WITH A MESSAGE

abbrev direction : Addr → Addr → Direction
direction f t = record { from = f; to = t }

-- a walk that has come past these has come by the direction: it is theirs, or before
abbrev pub is_behind : Option (Addr × Addr) → Addr → Addr → Bool
is_behind None f t = false
is_behind (Some s) f t = not (is_lt (direction_cmp (direction s.0 s.1) (direction f t)))

-- what is true on either side of a walk
either_side : {X : Type 0} (past : Option (Addr × Addr)) (f t : Addr) → (IsPast past (f, t) → X) →
    (is_behind past f t ≡ true → X) → X
either_side None f t ahead behind = ahead tt
either_side {X} (Some s) f t ahead behind = by (direction_cmp (direction s.0 s.1) (direction f t)) refl
  where
    by : (o : Ordering) → direction_cmp (direction s.0 s.1) (direction f t) ≡ o → X
    by Less is = ahead is
    by Equal is = behind (ap (λ o. not (is_lt o)) is)
    by Greater is = behind (ap (λ o. not (is_lt o)) is)

module _ (c : Configuration) (q : Queues) (past : Option (Addr × Addr)) (behind : (f t : Addr) →
    is_behind past f t ≡ true → is_up c f t ≡ false → queue_at q f t ≡ []) where
  -- at its end all is cleared
  pub found_end : SkipsNone q past None → (f t : Addr) → is_up c f t ≡ false → queue_at q f t ≡ []
  found_end none f t down = either_side past f t (λ ahead. none f t ahead) (λ is. behind f t is down)

  module _ (from to : Addr) (r : Queues) (skips : SkipsNone q past (Some (from, to))) (step : (f t : Addr) →
      queue_at r f t ≡ (if not (is_up c from to) && same_direction from to f t then [] else queue_at q f t)) where
    -- one direction more
    pub found_step : (f t : Addr) → is_behind (Some (from, to)) f t ≡ true → is_up c f t ≡ false → queue_at r f t ≡ []
    found_step f t is down = by (direction_cmp (direction from to) (direction f t)) refl
      where
        by : (o : Ordering) → direction_cmp (direction from to) (direction f t) ≡ o → queue_at r f t ≡ []
        by Less less = absurd (true≢false (sym is ∙ ap (λ o. not (is_lt o)) less))
        by Equal equal =
            let same : direction from to ≡ direction f t = direction_exact (direction from to) (direction f t) equal in
            step f t
            ∙ (λ i. if not (is_up c (same i).from (same i).to) && same_direction (same i).from (same i).to f t then []
            else queue_at q f t)
            ∙ (λ i. if not (down i) && (same_addr_itself f i && same_addr_itself t i) then [] else queue_at q f t)
        by Greater greater =
            let before : direction_cmp (direction f t) (direction from to) ≡ Less =
            direction_total.antisymm (direction f t) (direction from to) ∙ ap ordering_reverse greater in
            step f t ∙ empty_still (not (is_up c from to) && same_direction from to f t) (queue_at q f t)
            (either_side past f t (λ ahead. skips f t ahead before) (λ here. behind f t here down))

    nowhere : (b : Bool) (f t : Addr) → (if b && false then [] else queue_at q f t) ≡ queue_at q f t
    nowhere true f t = refl
    nowhere false f t = refl

    -- and what is up stays
    pub found_up : (f t : Addr) → is_up c f t ≡ true → queue_at r f t ≡ queue_at q f t
    found_up f t up = step f t ∙ by (same_addr f from) (same_addr t to) refl refl
      where
        by : (a b : Bool) → same_addr f from ≡ a → same_addr t to ≡ b →
            (if not (is_up c from to) && (same_addr f from && same_addr t to) then [] else queue_at q f t)
            ≡ queue_at q f t
        by true true is is' =
            let here : is_up c from to ≡ true =
            (λ i. is_up c (sym (same_address f from is) i) (sym (same_address t to is') i)) ∙ up in
            λ i. if not (here i) && (same_addr f from && same_addr t to) then [] else queue_at q f t
        by true false is is' = (λ i. if not (is_up c from to) && (is i && is' i) then [] else queue_at q f t)
            ∙ nowhere (not (is_up c from to)) f t
        by false b is is' = (λ i. if not (is_up c from to) && (is i && same_addr t to) then [] else queue_at q f t)
            ∙ nowhere (not (is_up c from to)) f t
