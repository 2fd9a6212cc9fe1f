-- What words of communities spell.
use Rattle.std.proofs.Common.{◌≡◌, ℕ, ◌<◌, ◌^◌, List, [], ◌∷◌, ◌++◌, codes, refl, ap, ◌∙◌, arith}
use Rattle.std.proofs.lemmas.List.{append_cancel_left}
use Rattle.std.proofs.lemmas.List.Elements.{All-nil, All-weaker, All-from_recursion, recursion_from_All}
use Rattle.path_attr.specs.Path.{IsAscending}
use Rattle.sim_event.specs.Events.{AreCommunities}
use Rattle.sim_event.specs.Wording.{numbers_text}
use Rattle.command_text.specs.Words.{communities_words}
use Rattle.command_text.specs.Ascending.{IsFrom, AreFrom, HasAscending}
use Rattle.command_text.specs.CommunityWords.{HasCommunities}
use Rattle.command_text.proofs.Numbers.{numbers_exact}

-- the word that names communities
abbrev comm_words : List ℕ → List (List ℕ)
comm_words text = (codes "comm=" ++ text) ∷ []

are_numbers : (c : ℕ) (cs text : List ℕ) → AreCommunities (c ∷ cs) → text ≡ numbers_text (c ∷ cs) →
    AreFrom 0 (c ∷ cs) text
are_numbers c cs text h e = (
  omega arith,
  recursion_from_All (IsFrom 0) (c ∷ cs)
      (All-weaker (λ n. n < 2 ^ 32) (IsFrom 0) (λ n lt. (omega arith, lt)) (c ∷ cs) h.1),
  e,
)

-- the numbers that they name
pub named_ascending : (words : List (List ℕ)) (text : List ℕ) → words ≡ comm_words text → HasCommunities words →
    HasAscending 0 text
named_ascending words text is ([], h, e) = absurd (cc)
named_ascending words text is (c ∷ cs, h, e) =
    let same : codes "comm=" ++ text ≡ codes "comm=" ++ numbers_text (c ∷ cs) = cc in
    (c ∷ cs, are_numbers c cs text h (append_cancel_left (codes "comm=") text (numbers_text (c ∷ cs)) same), h.0)

pub communities_of : (words : List (List ℕ)) (text cs : List ℕ) → words ≡ comm_words text → AreFrom 0 cs text →
    IsAscending cs → AreCommunities cs × (words ≡ communities_words cs)
communities_of words text [] is are up = absurd (omega (arith, are.0))
communities_of words text (c ∷ cs) is are up =
    let all = All-from_recursion (IsFrom 0) (c ∷ cs) are.1 in
    ((up, All-weaker (IsFrom 0) (λ n. n < 2 ^ 32) (λ n h. h.1) (c ∷ cs) all), is ∙ ap comm_words are.2)

pub ascending_named : (words : List (List ℕ)) (text : List ℕ) → words ≡ comm_words text → HasAscending 0 text →
    HasCommunities words
ascending_named words text is has = let made = communities_of words text has.0 is has.1 has.2 in (has.0, made.0, made.1)

-- no communities
pub none_of : (words : List (List ℕ)) → words ≡ [] → AreCommunities [] × (words ≡ communities_words [])
none_of words is = ((tt, All-nil (λ n. n < 2 ^ 32)), is)

pub none_named : (words : List (List ℕ)) → words ≡ [] → HasCommunities words
none_named words is = let made = none_of words is in ([], made.0, made.1)

pub unnamed_none : (words : List (List ℕ)) → ((text : List ℕ) → words ≡ comm_words text → ⊥) →
    HasCommunities words → words ≡ []
unnamed_none words other ([], h, e) = e
unnamed_none words other (c ∷ cs, h, e) = absurd (other (numbers_text (c ∷ cs)) e)

-- no two are spelled alike
pub communities_exact : (cs ds : List ℕ) → AreCommunities cs → AreCommunities ds →
    communities_words cs ≡ communities_words ds → cs ≡ ds
communities_exact [] [] h g e = refl
communities_exact [] (d ∷ ds) h g e = absurd (cc)
communities_exact (c ∷ cs) [] h g e = absurd (cc)
communities_exact (c ∷ cs) (d ∷ ds) h g e =
    let same : codes "comm=" ++ numbers_text (c ∷ cs) ≡ codes "comm=" ++ numbers_text (d ∷ ds) = cc in
    let text = numbers_text (c ∷ cs) in
    numbers_exact 0 (c ∷ cs) (d ∷ ds) text (are_numbers c cs text h refl)
    (are_numbers d ds text g (append_cancel_left (codes "comm=") text (numbers_text (d ∷ ds)) same))
