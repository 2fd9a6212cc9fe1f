-- Bytes that were written piece by piece.
use Rattle.std.proofs.Common.{ℕ, ◌+◌, List, ◌++◌, take, drop, Option, Some, None, sym, ap, ◌∙◌, append_assoc}
use Rattle.std.proofs.Math.Seq.{take-add}
use Rattle.std.specs.Io.KnownBytes.{Appends}

-- the first d bytes, and then n of the rest
pub appends_more : (old mid new : Option (List ℕ)) (bytes : List ℕ) (d n : ℕ) → Appends old mid (take d bytes) →
    Appends mid new (take n (drop d bytes)) → Appends old new (take (d + n) bytes)
appends_more None mid new bytes d n h g = tt
appends_more (Some xs) None new bytes d n h g = absurd h
appends_more (Some xs) (Some ys) None bytes d n h g = absurd g
appends_more (Some xs) (Some ys) (Some zs) bytes d n h g =
    g ∙ ap (λ ws. ws ++ take n (drop d bytes)) h ∙ append_assoc xs (take d bytes) (take n (drop d bytes))
    ∙ ap (λ ws. xs ++ ws) (sym (take-add d n bytes))
