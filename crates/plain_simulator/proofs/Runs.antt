-- Runs, one step at a time.
use Rattle.std.proofs.Common.{◌≡◌, ℕ, ◌+◌, ◌<◌, ◌≤◌, List, [], ◌∷◌, ◌++◌, drop, length, get_or, refl, sym, ap, ◌∙◌, subst, append_assoc, append-nil}
use Rattle.std.proofs.lemmas.List.{drop_more, drop_all}
use Rattle.sim_event.specs.declared.event.Event.{Event}
use Rattle.sim_event.specs.declared.reply.Reply.{Reply}
use Rattle.reference_machine.specs.Network.{Network}
use Rattle.reference_machine.specs.Machine.{IsStep, IsRun}

-- a step before a run of what is left after it
pub step_before : (s mid end : Network) (es : List Event) (i : ℕ) (e : Event) (r : Reply) (rest : List Reply) →
    i < length es → e ≡ get_or es i e → IsStep s e r mid → IsRun mid (drop (i + 1) es) rest end →
    IsRun s (drop i es) (r ∷ rest) end
step_before s mid end es i e r rest lt is one later =
    let P : List Event → Type 0 = λ xs. IsRun s xs (r ∷ rest) end in
    subst P (sym (drop_more es i e lt ∙ ap (λ x. x ∷ drop (i + 1) es) (sym is))) (mid, one, later)

-- the reply moves to the replies so far
pub told_more : (s end : Network) (es : List Event) (rs rs' : List Reply) (r : Reply) (rest : List Reply) →
    rs' ≡ rs ++ r ∷ [] → IsRun s es (rs ++ (r ∷ rest)) end → IsRun s es (rs' ++ rest) end
told_more s end es rs rs' r rest pushed run =
    let P : List Reply → Type 0 = λ xs. IsRun s es xs end in
    subst P (sym (ap (λ xs. xs ++ rest) pushed ∙ append_assoc rs (r ∷ []) rest)) run

-- where nothing is left, the replies are told
pub told_all : (s end : Network) (es all : List Event) (rs : List Reply) (i : ℕ) → length all ≤ i →
    ((rest : List Reply) (last : Network) → IsRun end (drop i all) rest last → IsRun s es (rs ++ rest) last) →
    IsRun s es rs end
told_all s end es all rs i ge told =
    let P : List Event → Type 0 = λ xs. IsRun end xs [] end in
    let Q : List Reply → Type 0 = λ xs. IsRun s es xs end in
    subst Q (append-nil rs) (told [] end (subst P (sym (drop_all i all ge)) refl))
