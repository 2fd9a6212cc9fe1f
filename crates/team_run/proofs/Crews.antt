-- The threads of engineers, and what of a team comes back.
use Rattle.std.proofs.Common.{◌≡◌, ℕ, List, [], ◌∷◌, ◌++◌, map, refl, sym, ap, subst, ◌∙◌, append_assoc, append-nil}
use Rattle.std.specs.declared.thread.PromisedHandle.{PromisedHandle}
use Rattle.std.specs.List.{AllZip}
use Rattle.std.proofs.lemmas.List.{map-append}
use Rattle.room.specs.Books.{SeatBook}
use Rattle.desk.specs.Desks.{AllWorked}
use Rattle.team_run.specs.declared.crew.HasCalledScript.{HasCalledScript}
use Rattle.team_run.specs.EngineerThreads.{AreToPlay, IsToPlay}
use Rattle.team_run.specs.declared.told.ToldLine.{ToldLine}
use Rattle.team_run.specs.Playing.{AreBack, Engineering, HasPlayed, PlayedBook}

zip_push : {X Y : Type 0} (R : X → Y → Type 0) (xs : List X) (ys : List Y) (x : X) (y : Y) → AllZip R xs ys → R x y →
    AllZip R (xs ++ x ∷ []) (ys ++ y ∷ [])
zip_push R [] [] x y all one = (one, tt)
zip_push R (a ∷ xs) (b ∷ ys) x y all one = (all.0, zip_push R xs ys x y all.1 one)
zip_push R [] (b ∷ ys) x y all one = absurd all
zip_push R (a ∷ xs) [] x y all one = absurd all

-- one thread more
pub to_play_push : {T L : Type 0} (engineers : List Engineering)
    (threads : List (PromisedHandle T (HasCalledScript L))) (engineer : Engineering)
    (thread : PromisedHandle T (HasCalledScript L))
    → AreToPlay engineers threads → IsToPlay engineer thread →
    AreToPlay (engineers ++ engineer ∷ []) (threads ++ thread ∷ [])
to_play_push engineers threads engineer thread all one = zip_push IsToPlay engineers threads engineer thread all one

-- the first engineers have ended: their seats are back, behind others, and what they tell; the other engineers are to
-- come
pub record Coming {T L : Type 0} (engineers : List Engineering) (threads : List (PromisedHandle T (HasCalledScript L)))
    (before back : List SeatBook) (told : List (List ToldLine)) : Type 0 where
  pub done : List Engineering
  pub left : List Engineering
  pub played : List PlayedBook
  pub parts : engineers ≡ done ++ left
  pub behind : back ≡ before ++ map (λ (p : PlayedBook). p.seat) played
  pub lines : told ≡ map (λ (p : PlayedBook). p.told) played
  pub play : AllZip HasPlayed done played
  pub to_play : AreToPlay left threads

pub coming_all : {T L : Type 0} (engineers : List Engineering) (threads : List (PromisedHandle T (HasCalledScript L)))
    (before : List SeatBook) → AreToPlay engineers threads → Coming engineers threads before before []
coming_all engineers threads before all = record {
  done = [];
  left = engineers;
  played = [];
  parts = refl;
  behind = sym (append-nil before);
  lines = refl;
  play = tt;
  to_play = all;
}

next_of : {T L : Type 0} (engineers done left : List Engineering) (thread : PromisedHandle T (HasCalledScript L))
    (threads : List (PromisedHandle T (HasCalledScript L))) (before back : List SeatBook)
    (told : List (List ToldLine)) (played : List PlayedBook) (one : PlayedBook)
    → engineers ≡ done ++ left → back ≡ before ++ map (λ (p : PlayedBook). p.seat) played
    → told ≡ map (λ (p : PlayedBook). p.told) played → AllZip HasPlayed done played →
    AreToPlay left (thread ∷ threads) → HasPlayed thread.promise.0.value one
    → Coming engineers threads before (back ++ one.seat ∷ []) (told ++ one.told ∷ [])
next_of engineers done [] thread threads before back told played one parts behind lines play all joined = absurd all
next_of engineers done (engineer ∷ left) thread threads before back told played one parts behind lines play all joined =
    let first : List Engineering = engineer ∷ [] in
    let last : List SeatBook = one.seat ∷ [] in
    record {
      done = done ++ first;
      left = left;
      played = played ++ one ∷ [];
      parts = parts ∙ sym (append_assoc done first left);
      behind = ap (λ ss. ss ++ last) behind
          ∙ append_assoc before (map (λ (p : PlayedBook). p.seat) played) last
          ∙ ap (λ ss. before ++ ss) (sym (map-append (λ (p : PlayedBook). p.seat) played (one ∷ [])));
      lines = ap (λ ts. ts ++ one.told ∷ []) lines
          ∙ sym (map-append (λ (p : PlayedBook). p.told) played (one ∷ []));
      play = zip_push HasPlayed done played engineer one play
          (subst (λ (e : Engineering). HasPlayed e one) all.0 joined);
      to_play = all.1;
    }

-- one engineer more is back
pub coming_next : {T L : Type 0} (engineers : List Engineering) (thread : PromisedHandle T (HasCalledScript L))
    (threads : List (PromisedHandle T (HasCalledScript L))) (before back : List SeatBook)
    (told : List (List ToldLine)) (one : PlayedBook)
    → Coming engineers (thread ∷ threads) before back told → HasPlayed thread.promise.0.value one →
    Coming engineers threads before (back ++ one.seat ∷ []) (told ++ one.told ∷ [])
coming_next engineers thread threads before back told one so joined =
    next_of engineers so.done so.left thread threads before back told so.played one so.parts so.behind so.lines
    so.play so.to_play joined

none_left : (T L : Type 0) (engineers done left : List Engineering) (played : List PlayedBook) → engineers ≡ done ++ left
    → AllZip HasPlayed done played → AreToPlay {T = T} {L = L} left [] → AllZip HasPlayed engineers played
none_left T L engineers done [] played parts play none =
    subst (λ es. AllZip HasPlayed es played) (sym (parts ∙ append-nil done)) play
none_left T L engineers done (engineer ∷ left) played parts play none = absurd none

-- all are back
pub coming_none : (T L : Type 0) (engineers : List Engineering) (before back : List SeatBook)
    (told : List (List ToldLine)) → Coming {T = T} {L = L} engineers [] before back told
    → (shards turns : ℕ) (workers : List SeatBook) → AllWorked shards turns workers before →
    AreBack shards turns engineers workers back told
coming_none T L engineers before back told so shards turns workers work = record {
  worked = before;
  played = so.played;
  together = so.behind;
  lines = so.lines;
  work = work;
  play = none_left T L engineers so.done so.left so.played so.parts so.play so.to_play;
}
