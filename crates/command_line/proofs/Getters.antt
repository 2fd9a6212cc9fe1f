-- What the getters of `clap` read of rows that have it.
use Rattle.std.proofs.Common.{◌≡◌, ap, refl, ℕ, List, Option, Some, None, Result, Ok, Err, option_map}
use Rattle.std.specs.Prelude.{IsSome}
use Rattle.std.specs.Str.Parse.{ParsesUnsigned}
use Rattle.clap.specs.Matches.{ReadsOne}
use Rattle.clap.specs.Words.{Text}
use Rattle.command_line.specs.CommandLine.{IsNumber, number_of}

-- a number that is there is read
module _ {E : Type 0} (G : List ℕ → Result ℕ E → Type 0) (only : (u : List ℕ) (x : Result ℕ E) → G u x →
    ParsesUnsigned 64 10 u x) where
  pub number_read : (text : Option Text) (r : Option ℕ) → IsNumber text →
      ((t : Text) → text ≡ Some t → ReadsOne G t r) → IsSome r × (r ≡ option_map number_of text)
  number_read None r is reads = absurd is
  number_read (Some t) r is reads = go r (reads t refl)
    where
      go : (o : Option ℕ) → ReadsOne G t o → IsSome o × (o ≡ Some (number_of t))
      go (Some n) h = (refl, ap Some (only t (Ok n) h).1)
      go None h = absurd (only t (Err h.0) h.1 (is.0, is.1))

-- what is there after a look is there before it
pub there : {A B : Type 0} (f : A → B) (o : Option A) → IsSome (option_map f o) → IsSome o
there f None has = has
there f (Some a) has = refl
