-- The engine's queues once places are reserved, and once messages are pushed one after another.
use Rattle.std.proofs.Common.{◌≡◌, ℕ, ◌+◌, ◌<◌, ◌≤◌, max, ◌⊎◌, inl, inr, ⊎_elim, Bool, true, false, cond, ◌&&◌, List, [], ◌∷◌, ◌++◌, length, if◌then◌else◌, refl, sym, ap, subst, ◌∙◌, append_assoc, arith}
use Rattle.net_prefix.specs.declared.addr.Addr.{Addr}
use Rattle.net_prefix.specs.Address.{same_addr}
use Rattle.session_queue.specs.declared.message.Message.{Message}
use Rattle.session_queue.specs.Waiting.{Queues, queue_at, spare_at, same_direction, KeepsOthers}
use Rattle.cell_engine.specs.Sending.{told, told_from}
use Rattle.cell_engine.proofs.Offers.{same_addr_true, same_addr_itself}
use Rattle.cell_engine.proofs.Told.{told_step}

both_by : (from to f t : Addr) (a b : Bool) → same_addr f from ≡ a → same_addr t to ≡ b → ((f ≡ from) × (t ≡ to))
    ⊎ ((a && b) ≡ false)
both_by from to f t true true p q = inl (same_addr_true f from p, same_addr_true t to q)
both_by from to f t true false p q = inr refl
both_by from to f t false b p q = inr refl

-- a direction is this one or another
direction_by : (from to f t : Addr) → ((f ≡ from) × (t ≡ to)) ⊎ (same_direction from to f t ≡ false)
direction_by from to f t = both_by from to f t (same_addr f from) (same_addr t to) refl refl

-- PLACES

module _ (from to : Addr) (q r : Queues) (others : KeepsOthers from to q r) where
  -- where the queue of the direction stays, all do
  pub queue_kept : queue_at r from to ≡ queue_at q from to → (f t : Addr) → queue_at r f t ≡ queue_at q f t
  queue_kept is f t = ⊎_elim (λ h. (λ i. queue_at r (h.0 i) (h.1 i)) ∙ is ∙ sym (λ i. queue_at q (h.0 i) (h.1 i)))
      (λ h. others.queue f t h) (direction_by from to f t)

  -- places that are reserved take none from any direction
  pub spare_grows : (n : ℕ) → spare_at r from to ≡ max n (spare_at q from to) → (f t : Addr) →
      spare_at q f t ≤ spare_at r f t
  spare_grows n is f t =
      ⊎_elim (λ h. subst (λ x. spare_at q x t ≤ spare_at r x t) (sym h.0)
      (subst (λ x. spare_at q from x ≤ spare_at r from x) (sym h.1) (omega (arith, is))))
      (λ h. omega (arith, others.spare f t h)) (direction_by from to f t)

-- ONE MESSAGE OF MANY

told_here : (e : Addr × Message) (rest : List (Addr × Message)) → told e.0 (e ∷ rest) ≡ e.1 ∷ told e.0 rest
told_here e rest = told_step e.0 e rest ∙ ap (λ b. cond b (e.1 ∷ told e.0 rest) (told e.0 rest)) (same_addr_itself e.0)

told_more : (t : Addr) (e : Addr × Message) (rest : List (Addr × Message)) →
    length (told t rest) ≤ length (told t (e ∷ rest))
told_more t e rest =
    subst (λ l. length (told t rest) ≤ length l) (sym (told_step t e rest))
    (elim (same_addr t e.0) as (λ b. length (told t rest) ≤ length (cond b (e.1 ∷ told t rest) (told t rest))) [
      | true ↦
          omega arith
      | false ↦ omega arith
    ])

not_told : (a b : Bool) (m : Message) (ms : List Message) → (a && b) ≡ false →
    ◌≡◌ {A = List Message} (if a then cond b (m ∷ ms) ms else []) (if a then ms else [])
not_told true b m ms h = ap (λ b. cond b (m ∷ ms) ms) h
not_told false b m ms h = refl

-- who is told has a place
pub place_for : (r : Addr) (e : Addr × Message) (rest : List (Addr × Message)) (q : Queues) →
    length (told e.0 (e ∷ rest)) ≤ spare_at q r e.0 → 0 < spare_at q r e.0
place_for r e rest q room = omega (arith, room, ap length (told_here e rest))

module _ (r : Addr) (e : Addr × Message) (rest : List (Addr × Message)) (q p : Queues)
    (others : KeepsOthers r e.0 q p) where
  from_here : (l : List (Addr × Message)) → told_from r l r e.0 ≡ told e.0 l
  from_here l = ap (λ b. if b then told e.0 l else []) (same_addr_itself r)

  elsewhere : (f t : Addr) → same_direction r e.0 f t ≡ false → told_from r (e ∷ rest) f t ≡ told_from r rest f t
  elsewhere f t h =
      ap (λ l. if same_addr f r then l else []) (told_step t e rest)
      ∙ not_told (same_addr f r) (same_addr t e.0) e.1 (told t rest) h

  -- the first message goes from what is to be sent to what was
  pub pushed_queue : queue_at p r e.0 ≡ queue_at q r e.0 ++ e.1 ∷ [] → (f t : Addr) →
      queue_at p f t ++ told_from r rest f t ≡ queue_at q f t ++ told_from r (e ∷ rest) f t
  pushed_queue is f t =
      ⊎_elim (λ h. (λ i. queue_at p (h.0 i) (h.1 i) ++ told_from r rest (h.0 i) (h.1 i))
      ∙ (λ i. is i ++ from_here rest i)
      ∙ append_assoc (queue_at q r e.0) (e.1 ∷ []) (told e.0 rest)
      ∙ ap (λ l. queue_at q r e.0 ++ l) (sym (from_here (e ∷ rest) ∙ told_here e rest))
      ∙ sym (λ i. queue_at q (h.0 i) (h.1 i) ++ told_from r (e ∷ rest) (h.0 i) (h.1 i)))
      (λ h. (λ i. others.queue f t h i ++ sym (elsewhere f t h) i)) (direction_by r e.0 f t)

  -- and the others keep their places
  pub pushed_room : spare_at p r e.0 + 1 ≡ spare_at q r e.0 → (t : Addr) → length (told t (e ∷ rest)) ≤ spare_at q r t →
      length (told t rest) ≤ spare_at p r t
  pushed_room is t room =
      ⊎_elim (λ h. subst (λ x. length (told x rest) ≤ spare_at p r x) (sym h.1)
      (let room' : length (told e.0 (e ∷ rest)) ≤ spare_at q r e.0 =
      subst (λ x. length (told x (e ∷ rest)) ≤ spare_at q r x) h.1 room in
      omega (arith, room', is, ap length (told_here e rest))))
      (λ h. omega (arith, room, told_more t e rest, others.spare r t h)) (direction_by r e.0 r t)

  -- the places that are left
  pub pushed_spare : spare_at p r e.0 + 1 ≡ spare_at q r e.0 → (f t : Addr) →
      spare_at p f t + length (told_from r (e ∷ rest) f t) ≡ spare_at q f t + length (told_from r rest f t)
  pushed_spare is f t =
      ⊎_elim (λ h. (λ i. spare_at p (h.0 i) (h.1 i) + length (told_from r (e ∷ rest) (h.0 i) (h.1 i)))
      ∙ omega (arith, is, ap length (from_here (e ∷ rest)), ap length (from_here rest), ap length (told_here e rest))
      ∙ sym (λ i. spare_at q (h.0 i) (h.1 i) + length (told_from r rest (h.0 i) (h.1 i))))
      (λ h. omega (arith, others.spare f t h, ap length (elsewhere f t h))) (direction_by r e.0 f t)
