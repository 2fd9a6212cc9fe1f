-- Both ends of a session that is up are there.
use Rattle.std.proofs.Common.{◌≡◌, Bool, true, false, not, ◌&&◌, ◌||◌, ◌∷◌, [], Option, Some, None, option_map, is_some, refl, sym, ◌∙◌}
use Rattle.std.proofs.lemmas.Bool.{true≢false}
use Rattle.std.specs.Option.{unwrap_or}
use Rattle.net_prefix.specs.declared.addr.Addr.{Addr}
use Rattle.net_conf.specs.declared.refusal.Refusal.{Refusal}
use Rattle.net_conf.specs.declared.refusal.Refusal.TheVariants.{NoRouter, NoSession, SessionDown, BadEnd, FirstAs, Limit}
use Rattle.net_conf.specs.Edits.{first_of}
use Rattle.net_conf.specs.Configuration.{Configuration, has_node, has_session, is_virtual, session_between}
use Rattle.net_conf.specs.Configured.{IsConfigured}
use Rattle.net_conf.specs.Costs.{is_connected, is_up, session_up}
use Rattle.net_conf.proofs.KeptTrees.{node_of_end, session_ends, session_turned}
use Rattle.session_queue.specs.declared.direction.Direction.{Direction}
use Rattle.sim_event.specs.declared.event.Feed.{Feed}
use Rattle.reference_machine.specs.Machine.{carries_too_many, delivery_refusal, feed_refusal, has_foreign_first, is_too_long}

some_if_up : {A : Type 0} (o : Option A) (f : A → Bool) → unwrap_or (option_map f o) false ≡ true → is_some o ≡ true
some_if_up None f up = absurd (true≢false (sym up))
some_if_up (Some a) f up = refl

module _ (c : Configuration) (configured : IsConfigured c) (a b : Addr) (up : is_up c a b ≡ true) where
  session_there : has_session c a b ≡ true
  unfolding session_up
  session_there = some_if_up (session_between c a b) (λ enabled. enabled && is_connected c a b) up

  first_there : has_node c a ≡ true
  first_there = node_of_end c a configured.session_ends (session_ends c a b session_there)

  second_there : has_node c b ≡ true
  second_there = node_of_end c b configured.session_ends (session_ends c b a (session_turned c a b session_there))

-- a delivery over a session that is up is not refused
pub delivery_allowed : (c : Configuration) → IsConfigured c → (d : Direction) → is_up c d.from d.to ≡ true →
    delivery_refusal c d ≡ None
unfolding delivery_refusal
delivery_allowed c configured d up =
    let first = first_there c configured d.from d.to up in
    let second = second_there c configured d.from d.to up in
    let session = session_there c configured d.from d.to up in
    (λ i. first_of ((not (first i && second i), NoRouter) ∷ (not (session i), NoSession) ∷ (
      not (up i),
      SessionDown,
    ) ∷ []))

-- of a feed over one, these tests are left
pub feed_tests : (c : Configuration) → IsConfigured c → (f : Feed) → is_up c f.from f.to ≡ true →
    feed_refusal c f ≡ first_of ((not (is_virtual c f.from) || is_virtual c f.to, BadEnd)
    ∷ (has_foreign_first c f.from f.news, FirstAs) ∷ (is_too_long f.news || carries_too_many f.news, Limit) ∷ [])
unfolding feed_refusal
feed_tests c configured f up =
    let first = first_there c configured f.from f.to up in
    let second = second_there c configured f.from f.to up in
    let session = session_there c configured f.from f.to up in
    (λ i. first_of ((not (first i && second i), NoRouter) ∷ (not (is_virtual c f.from) || is_virtual c f.to, BadEnd)
    ∷ (not (session i), NoSession) ∷ (not (up i), SessionDown) ∷ (has_foreign_first c f.from f.news, FirstAs)
    ∷ (is_too_long f.news || carries_too_many f.news, Limit) ∷ []))
    ∙ by (not (is_virtual c f.from) || is_virtual c f.to)
  where
    by : (t : Bool) → first_of ((t, BadEnd) ∷ (false, NoSession) ∷ (false, SessionDown)
        ∷ (has_foreign_first c f.from f.news, FirstAs) ∷ (is_too_long f.news || carries_too_many f.news, Limit) ∷ [])
        ≡ first_of ((t, BadEnd) ∷ (has_foreign_first c f.from f.news, FirstAs)
        ∷ (is_too_long f.news || carries_too_many f.news, Limit) ∷ [])
    by true = refl
    by false = refl
