-- Answers that are written piece by piece.
use Rattle.std.proofs.Common.{◌≡◌, ℕ, ◌<◌, Bool, true, false, List, [], ◌∷◌, ◌++◌, length, Result, Ok, Err, refl, sym, ap, ◌∙◌, subst, arith, append-nil, append_assoc}
use Rattle.watched.specs.Streams.{Writing, Writes}
use Rattle.watched.specs.Writing.{writes_then, writes_stop, writes_none}
use Rattle.watched.specs.declared.sink.WriterFailed.{WriterFailed}
use Rattle.reference_machine.specs.Network.{Network}
use Rattle.convergence.specs.declared.delivery.Delivery.{Delivery}
use Rattle.convergence.specs.declared.delivery.Tally.{Tally}
use Rattle.convergence.specs.declared.ending.Ending.{Ending}
use Rattle.convergence.specs.Deliveries.{tally_of, no_delivery, counted, AreTaken, EndsBy}
use Rattle.convergence.proofs.Counting.{taken_more, tally_more}
use Rattle.converge_text.specs.Answers.{delivery_text, echoed, ending_text, AreDelivered}
use Rattle.converge_text.specs.Echoes.{AreEchoed}
use Rattle.std.proofs.lemmas.List.{length_push}

abbrev Written : Type 0
Written = Result (Unit {0}) WriterFailed

pub written_more : (old mid new : Writing) (a b : List ℕ) (before r : Written) (u : Unit {0}) → before ≡ Ok u →
    Writes old a before mid → Writes mid b r new → Writes old (a ++ b) r new
written_more old mid new a b before r u is h g =
    writes_then old mid new a b u r (subst (λ (x : Written). Writes old a x mid) is h) g

pub written_no_more : (old mid : Writing) (a b : List ℕ) (before : Written) (e : WriterFailed) → before ≡ Err e →
    Writes old a before mid → Writes old (a ++ b) (let r : Written = Err e in r) mid
written_no_more old mid a b before e is h =
    writes_stop old mid a b e e (subst (λ (x : Written). Writes old a x mid) is h)

pub echoed_one : (d : Delivery) → echoed true (d ∷ []) ≡ delivery_text d
echoed_one d = append-nil (delivery_text d)

echoed_more : (echo : Bool) (ds es : List Delivery) → echoed echo (ds ++ es) ≡ echoed echo ds ++ echoed echo es
echoed_more false ds es = refl
echoed_more true [] es = refl
echoed_more true (d ∷ ds) es = ap (λ t. delivery_text d ++ t) (echoed_more true ds es)
    ∙ sym (append_assoc (delivery_text d) (echoed true ds) (echoed true es))

echoed_none : (echo : Bool) → echoed echo [] ≡ []
echoed_none false = refl
echoed_none true = refl

pub nothing_echoed : (s : Network) (n : ℕ) (echo : Bool) (o : Writing) (u : Unit {0}) →
    AreEchoed s n echo o no_delivery (Ok u) o s
nothing_echoed s n echo o u = record {
  deliveries = [];
  taken = refl;
  tally_is = refl;
  few = omega arith;
  echoes = subst (λ text. Writes o text (let r : Written = Ok u in r) o) (sym (echoed_none echo))
      (writes_none {E = WriterFailed} o (let r : Written = Ok u in r) u refl);
}

pub one_echoed : (s : Network) (n : ℕ) (echo : Bool) (o : Writing) (t : Tally) (w : Written) (om : Writing)
    (mid : Network) (d : Delivery) (t' : Tally) (w' : Written) (o' : Writing) (s' : Network) →
    AreTaken mid (d ∷ []) s' → t.made < n → t' ≡ counted t d.kind →
    ((old : Writing) (text : List ℕ) → Writes old text w om → Writes old (text ++ echoed echo (d ∷ [])) w' o') →
    AreEchoed s n echo o t w om mid → AreEchoed s n echo o t' w' o' s'
one_echoed s n echo o t w om mid d t' w' o' s' one room count writes so_far =
    let ds = so_far.deliveries in
    let made : t.made ≡ length ds = ap (λ (x : Tally). x.made) so_far.tally_is in
    record {
      deliveries = ds ++ d ∷ [];
      taken = taken_more s ds mid d s' so_far.taken one;
      tally_is = count ∙ ap (λ x. counted x d.kind) so_far.tally_is ∙ tally_more ds d;
      few = omega (arith, length_push ds d);
      echoes = subst (λ text. Writes o text w' o') (sym (echoed_more echo ds (d ∷ [])))
          (writes o (echoed echo ds) so_far.echoes);
    }

pub all_delivered : (s : Network) (n m : ℕ) (echo : Bool) (o : Writing) (t : Tally) (w : Written) (om : Writing)
    (mid : Network) (ending : Ending) (t' : Tally) (r : Written) (o' : Writing) (s' : Network) →
    m ≡ n → (s' ≡ mid) × (t' ≡ t) × EndsBy ending mid m t.made →
    ((old : Writing) (text : List ℕ) → Writes old text w om → Writes old (text ++ ending_text ending t') r o') →
    AreEchoed s n echo o t w om mid →
    (answer : List ℕ) × AreDelivered s n echo answer s' × Writes o answer r o'
all_delivered s n m echo o t w om mid ending t' r o' s' same ended writes so_far =
    let ds = so_far.deliveries in
    let made : t.made ≡ length ds = ap (λ (x : Tally). x.made) so_far.tally_is in
    let counts : t' ≡ tally_of ds = ended.1 ∙ so_far.tally_is in (
      echoed echo ds ++ ending_text ending t',
      record {
        deliveries = ds;
        ending = ending;
        taken = subst (λ (x : Network). AreTaken s ds x) (sym ended.0) so_far.taken;
        few = so_far.few;
        ends = subst (λ (x : Network). EndsBy ending x n (length ds)) (sym ended.0)
            (subst (λ k. EndsBy ending mid n k) made (subst (λ k. EndsBy ending mid k t.made) same ended.2));
        text_is = ap (λ (x : Tally). echoed echo ds ++ ending_text ending x) counts;
      },
      writes o (echoed echo ds) so_far.echoes,
    )
