-- Bytes that are read one piece after another.
use Rattle.std.proofs.Common.{◌∙◌, ap, sym, ℕ, List, [], ◌++◌, refl, append_assoc, append-nil, Option, Some, None}
use Rattle.std.specs.Io.KnownBytes.{Consumes, IsAtEnd}
use Rattle.script_files.specs.Sources.{IsWhole}

-- a, and then b
pub consumes_both : (old mid new : Option (List ℕ)) (a b : List ℕ) → Consumes old mid a → Consumes mid new b →
    Consumes old new (a ++ b)
consumes_both None mid new a b h g = tt
consumes_both (Some xs) None new a b h g = absurd h
consumes_both (Some xs) (Some ys) None a b h g = absurd g
consumes_both (Some xs) (Some ys) (Some zs) a b h g = h ∙ ap (λ ws. a ++ ws) g ∙ sym (append_assoc a b zs)

pub consumes_none : (old : Option (List ℕ)) → Consumes old old []
consumes_none None = tt
consumes_none (Some xs) = refl

-- at the end all was read
pub all_read : (old new : Option (List ℕ)) (script : List ℕ) → Consumes old new script →
    IsAtEnd new → IsWhole old script
all_read None new script h e = tt
all_read (Some xs) None script h e = absurd h
all_read (Some xs) (Some ys) script h e = h ∙ ap (λ ws. script ++ ws) e ∙ append-nil script
