-- Counted runs, one step at a time.
use Rattle.std.proofs.Common.{◌≡◌, ℕ, ◌+◌, ◌<◌, ◌≤◌, List, [], ◌∷◌, ◌++◌, drop, length, get_or, refl, sym, ap, ◌∙◌, subst, append_assoc, append-nil}
use Rattle.std.proofs.lemmas.List.{drop_more, drop_all}
use Rattle.sim_event.specs.declared.event.Event.{Event}
use Rattle.sim_event.specs.declared.reply.Reply.{Reply}
use Rattle.reference_machine.specs.Network.{Network}
use Rattle.reference_machine.specs.Machine.{IsStep, IsRun}
use Rattle.sim_core.specs.Counting.{Counts, IsCountedRun}

-- a step before a run of what is left after it
pub step_before : (s mid end : Network) (n k m : ℕ) (es : List Event) (i : ℕ) (e : Event) (r : Reply)
    (rest : List Reply) → i < length es → e ≡ get_or es i e → IsStep s e r mid → Counts s e r n k →
    IsCountedRun mid k (drop (i + 1) es) rest end m → IsCountedRun s n (drop i es) (r ∷ rest) end m
step_before s mid end n k m es i e r rest lt is one counts later =
    let P : List Event → Type 0 = λ xs. IsCountedRun s n xs (r ∷ rest) end m in
    subst P (sym (drop_more es i e lt ∙ ap (λ x. x ∷ drop (i + 1) es) (sym is))) (mid, k, one, counts, later)

-- the reply moves to the replies so far
pub told_more : (s end : Network) (n m : ℕ) (es : List Event) (rs rs' : List Reply) (r : Reply) (rest : List Reply) →
    rs' ≡ rs ++ r ∷ [] → IsCountedRun s n es (rs ++ (r ∷ rest)) end m → IsCountedRun s n es (rs' ++ rest) end m
told_more s end n m es rs rs' r rest pushed run =
    let P : List Reply → Type 0 = λ xs. IsCountedRun s n es xs end m in
    subst P (sym (ap (λ xs. xs ++ rest) pushed ∙ append_assoc rs (r ∷ []) rest)) run

-- where nothing is left, the replies are told
pub told_all : (s end : Network) (n m : ℕ) (es all : List Event) (rs : List Reply) (i : ℕ) → length all ≤ i →
    ((rest : List Reply) (last : Network) (most : ℕ) → IsCountedRun end m (drop i all) rest last most →
    IsCountedRun s n es (rs ++ rest) last most) → IsCountedRun s n es rs end m
told_all s end n m es all rs i ge told =
    let P : List Event → Type 0 = λ xs. IsCountedRun end m xs [] end m in
    let Q : List Reply → Type 0 = λ xs. IsCountedRun s n es xs end m in
    subst Q (append-nil rs) (told [] end m (subst P (sym (drop_all i all ge)) (refl, refl)))

-- a counted run is a run
pub run_of : (s s' : Network) (n m : ℕ) (es : List Event) (rs : List Reply) →
    IsCountedRun s n es rs s' m → IsRun s es rs s'
run_of s s' n m [] [] run = run.0
run_of s s' n m (e ∷ es) (r ∷ rs) (mid, k, one, counts, later) = (mid, one, run_of mid s' k m es rs later)
run_of s s' n m [] (r ∷ rs) run = absurd run
run_of s s' n m (e ∷ es) [] run = absurd run
