-- A direction that has run empty, and may rest.
use Rattle.std.proofs.Common.{◌≡◌, ◌⊎◌, ⊎_elim, inl, inr, Bool, true, false, cond, [], Option, Some, None, refl, sym, ap, ◌∙◌, subst, arith}
use Rattle.std.specs.List.Sorted.{IsStrictlySortedBy}
use Rattle.std.specs.Option.{IfSome, unwrap_or, option_map}
use Rattle.std.specs.Map.{keys_of, remove_entry}
use Rattle.std.specs.BTreeMap.{is_at}
use Rattle.std.proofs.lemmas.Bool.{false≢true}
use Rattle.std.proofs.lemmas.Option.{none-some}
use Rattle.std.proofs.lemmas.Map.Entries.{sum_by-remove_entry}
use Rattle.net_prefix.specs.declared.addr.Addr.{Addr}
use Rattle.session_queue.specs.declared.direction.Direction.{Direction}
use Rattle.session_queue.specs.declared.numbered.Numbered.{Numbered}
use Rattle.session_queue.specs.Lines.{Waiting, Lines, direction_cmp, waiting_at, messages_of, spare_of, messages_at, spare_in}
use Rattle.session_queue.specs.Tidy.{one_if_any, full_count, IsKept, IsBlank, AreKept, LosesBlank}
use Rattle.session_queue.proofs.Places.{direction_laws, at, key, Changes, Becomes, gone, here, queue_held, spare_held, no_length}
use Rattle.session_queue.proofs.Tidiness.{none_left}
use Rattle.session_queue.proofs.Walk.{same}

no_messages : (x : Option (Waiting Numbered)) → IfSome x IsBlank → messages_of x ≡ []
no_messages None blank = refl
no_messages (Some w) blank = no_length w.messages (omega (arith, blank))

no_spare : (x : Option (Waiting Numbered)) → IfSome x IsBlank → spare_of x ≡ 0
no_spare None blank = refl
no_spare (Some w) blank = omega (arith, blank)

no_count : (x : Option (Waiting Numbered)) → IfSome x IsBlank →
    unwrap_or (option_map (λ (u : Waiting Numbered). one_if_any u.messages) x) 0 ≡ 0
no_count None blank = refl
no_count (Some w) blank = none_left w.messages (omega (arith, blank))

is_or_not : (x : Option Direction) (e : Direction) → (x ≡ Some e) ⊎ (x ≡ Some e → ⊥)
is_or_not None e = inr (λ h. none-some e h)
is_or_not (Some d) e = by (is_at (direction_cmp d) e) refl
  where
    by : (b : Bool) → is_at (direction_cmp d) e ≡ b → (Some d ≡ Some e) ⊎ (Some d ≡ Some e → ⊥)
    by true h = inl (ap Some (same d e h))
    by false h = inr (λ is. false≢true (sym h
        ∙ subst (λ k. is_at (direction_cmp k) e ≡ true) (sym (ap (λ o. unwrap_or o d) is)) (direction_laws.refl e)))

not_true : (b : Bool) → (b ≡ true → ⊥) → b ≡ false
not_true true h = absurd (h refl)
not_true false h = refl

-- the blank line of d has left q
module _ (q r : Lines Numbered) (d : Direction) (blank : IfSome (waiting_at q d.from d.to) IsBlank)
    (h : Changes d.from d.to q r None) where
  -- what shows no blank line
  unseen : {A : Type 0} (f : Option (Waiting Numbered) → A) →
      ((x : Option (Waiting Numbered)) → IfSome x IsBlank → f x ≡ f None) → (from to : Addr) →
      f (waiting_at r from to) ≡ f (waiting_at q from to)
  unseen f none from to = by (at d.from d.to (key from to)) refl
    where
      by : (b : Bool) → at d.from d.to (key from to) ≡ b → f (waiting_at r from to) ≡ f (waiting_at q from to)
      by true is =
          let there : IfSome (waiting_at q from to) IsBlank =
          subst (λ (e : Direction). IfSome (waiting_at q e.from e.to) IsBlank) (same d (key from to) is) blank in
          ap f (h.holds from to ∙ ap (λ b. cond b None (waiting_at q from to)) is)
          ∙ sym (none (waiting_at q from to) there)
      by false is = ap f (h.holds from to ∙ ap (λ b. cond b None (waiting_at q from to)) is)

module _ (q r : Lines Numbered) (ordered : IsStrictlySortedBy direction_cmp (keys_of q)) where
  left : (d : Direction) → r ≡ remove_entry (is_at (direction_cmp d)) q → Changes d.from d.to q r None
  left d out = gone d.from d.to q q r refl ordered out

  messages_same : (x : Option Direction) → LosesBlank x q r → (f t : Addr) → messages_at r f t ≡ messages_at q f t
  messages_same None is f t = ap (λ ls. messages_at ls f t) is
  messages_same (Some d) lost f t =
      ⊎_elim
      (λ h. ap (λ ls. messages_at ls f t) h.1)
      (λ h. queue_held f t r r refl _ refl ∙ unseen q r d h.0 (left d h.1) messages_of no_messages f t
      ∙ sym (queue_held f t q q refl _ refl))
      lost

  spare_same : (x : Option Direction) → LosesBlank x q r → (f t : Addr) → spare_in r f t ≡ spare_in q f t
  spare_same None is f t = ap (λ ls. spare_in ls f t) is
  spare_same (Some d) lost f t =
      ⊎_elim
      (λ h. ap (λ ls. spare_in ls f t) h.1)
      (λ h. spare_held f t r r refl _ refl ∙ unseen q r d h.0 (left d h.1) spare_of no_spare f t
      ∙ sym (spare_held f t q q refl _ refl))
      lost

  pub count_same : (x : Option Direction) → LosesBlank x q r → full_count r ≡ full_count q
  count_same None is = ap full_count is
  count_same (Some d) lost =
      ⊎_elim
      (λ h. ap full_count h.1)
      (λ h.
      let sums = sum_by-remove_entry (λ (u : Waiting Numbered). one_if_any u.messages) (at d.from d.to) q in
      let none = no_count (waiting_at q d.from d.to) h.0 in
      ap full_count h.1 ∙ omega (arith, sums, none))
      lost

  kept_there : (x : Option Direction) → LosesBlank x q r → (f t : Addr) → x ≡ Some (key f t) →
      IfSome (waiting_at r f t) IsKept
  kept_there None is f t h = absurd (none-some (key f t) h)
  kept_there (Some d) lost f t h =
      let one : d ≡ key f t = ap (λ o. unwrap_or o d) h in
      subst (λ (e : Direction). IfSome (waiting_at r e.from e.to) IsKept) one
      (⊎_elim
      (λ g. subst (λ ls. IfSome (waiting_at ls d.from d.to) IsKept) (sym g.1) g.0)
      (λ g. subst (λ o. IfSome o IsKept) (sym (here d.from d.to q r None (left d g.1))) tt)
      lost)

  same_elsewhere : (x : Option Direction) → LosesBlank x q r → (f t : Addr) → (x ≡ Some (key f t) → ⊥) →
      waiting_at r f t ≡ waiting_at q f t
  same_elsewhere None is f t other = ap (λ ls. waiting_at ls f t) is
  same_elsewhere (Some d) lost f t other =
      let apart : at d.from d.to (key f t) ≡ false = not_true _ (λ is. other (ap Some (same d (key f t) is))) in
      ⊎_elim
      (λ h. ap (λ ls. waiting_at ls f t) h.1)
      (λ h. (left d h.1).holds f t ∙ ap (λ b. cond b None (waiting_at q f t)) apart)
      lost

  pub still_becomes : (from to : Addr) (p : Lines Numbered) (w : Waiting Numbered) (x : Option Direction) →
      LosesBlank x q r → Becomes from to p q w → Becomes from to p r w
  still_becomes from to p w x lost b = record {
    queue = messages_same x lost from to ∙ b.queue;
    spare = spare_same x lost from to ∙ b.spare;
    others = record {
      messages = λ f t other. messages_same x lost f t ∙ b.others.messages f t other;
      spare = λ f t other. spare_same x lost f t ∙ b.others.spare f t other;
    };
  }

  -- p has become q at the direction, and then r; old rested, and new does
  pub rested : (from to : Addr) (p : Lines Numbered) (w : Waiting Numbered) (x old new : Option Direction) →
      AreKept old p → Changes from to p q (Some w) → LosesBlank x q r →
      (new ≡ Some (key from to)) ⊎ (x ≡ Some (key from to)) →
      IfSome old (λ before. (new ≡ Some before) ⊎ (x ≡ Some before)) → AreKept new r
  rested from to p w x old new all h lost served before f t awake =
      ⊎_elim
      (λ is. kept_there x lost f t is)
      (λ other.
      let apart : at from to (key f t) ≡ false = not_true _ (λ is.
      let one = ap Some (same (key from to) (key f t) is) in
      ⊎_elim (λ n. awake (n ∙ one)) (λ y. other (y ∙ one)) served) in
      let as_before = same_elsewhere x lost f t other ∙ h.holds f t
      ∙ ap (λ b. cond b (Some w) (waiting_at p f t)) apart in
      let was : IfSome (waiting_at p f t) IsKept =
      all f t (λ rests. ⊎_elim awake other
      (subst (λ o. IfSome o (λ before. (new ≡ Some before) ⊎ (x ≡ Some before))) rests before)) in
      subst (λ o. IfSome o IsKept) (sym as_before) was)
      (is_or_not x (key f t))
