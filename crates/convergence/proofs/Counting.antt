-- One delivery more, and how many there are then.
use Rattle.std.proofs.Common.{◌≡◌, ℕ, ◌+◌, ◌<◌, cond, List, [], ◌∷◌, ◌++◌, length, refl, sym, ap, ◌∙◌, subst, arith, add-zero}
use Rattle.std.proofs.lemmas.List.{length_push}
use Rattle.std.proofs.lemmas.List.Sums.{sum_by-append}
use Rattle.session_queue.specs.declared.message.MessageKind.{MessageKind}
use Rattle.session_queue.specs.declared.message.MessageKind.TheVariants.{Update, Withdraw}
use Rattle.reference_machine.specs.Network.{Network}
use Rattle.reference_machine.specs.Machine.{step}
use Rattle.convergence.specs.declared.delivery.Delivery.{Delivery}
use Rattle.convergence.specs.declared.delivery.Tally.{Tally}
use Rattle.convergence.specs.Deliveries.{event_of, is_update, is_withdrawal, tally_of, no_delivery, counted, AreTaken, AreDelivered}

pub taken_more : (s : Network) (ds : List Delivery) (mid : Network) (d : Delivery) (s' : Network) → AreTaken s ds mid →
    AreTaken mid (d ∷ []) s' → AreTaken s (ds ++ d ∷ []) s'
taken_more s [] mid d s' h one = subst (λ n. AreTaken n (d ∷ []) s') h one
taken_more s (x ∷ xs) mid d s' h one = (h.0, taken_more (step s (event_of x)).next xs mid d s' h.1 one)

counted_by : (k : MessageKind) (made updates withdrawals : ℕ) →
    counted (record { made = made; updates = updates; withdrawals = withdrawals }) k
    ≡ record {
      made = made + 1;
      updates = updates + (0 + cond (is_update k) 1 0);
      withdrawals = withdrawals + (0 + cond (is_withdrawal k) 1 0);
    }
counted_by Update made updates withdrawals = λ i. record {
  made = made + 1;
  updates = updates + 1;
  withdrawals = sym (add-zero withdrawals) i;
}
counted_by Withdraw made updates withdrawals = λ i. record {
  made = made + 1;
  updates = sym (add-zero updates) i;
  withdrawals = withdrawals + 1;
}

pub tally_more : (ds : List Delivery) (d : Delivery) → counted (tally_of ds) d.kind ≡ tally_of (ds ++ d ∷ [])
tally_more ds d =
    let made = length_push ds d in
    let updates = sum_by-append (λ (x : Delivery). cond (is_update x.kind) 1 0) ds (d ∷ []) in
    let withdrawals = sum_by-append (λ (x : Delivery). cond (is_withdrawal x.kind) 1 0) ds (d ∷ []) in
    counted_by d.kind (tally_of ds).made (tally_of ds).updates (tally_of ds).withdrawals
    ∙ (λ i. record { made = sym made i; updates = sym updates i; withdrawals = sym withdrawals i })

pub delivered_none : (s : Network) (n : ℕ) → AreDelivered s n no_delivery s
delivered_none s n = record { deliveries = []; taken = refl; tally_is = refl; few = omega arith }

-- one more was delivered
pub delivered_more : (s : Network) (n : ℕ) (t : Tally) (mid : Network) (d : Delivery) (t' : Tally) (s' : Network) →
    AreTaken mid (d ∷ []) s' → t.made < n → t' ≡ counted t d.kind → AreDelivered s n t mid → AreDelivered s n t' s'
delivered_more s n t mid d t' s' one room count so_far =
    let ds = so_far.deliveries in
    let made : t.made ≡ length ds = ap (λ (x : Tally). x.made) so_far.tally_is in
    record {
      deliveries = ds ++ d ∷ [];
      taken = taken_more s ds mid d s' so_far.taken one;
      tally_is = count ∙ ap (λ x. counted x d.kind) so_far.tally_is ∙ tally_more ds d;
      few = omega (arith, length_push ds d);
    }
