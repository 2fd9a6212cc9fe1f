-- No public contract cites this file. What is told at a terminal of how far a team is.
use Rattle.std.specs.Prelude.{ℕ, List, ◌++◌, ◌∷◌, codes}
use Rattle.std.specs.Fmt.{decimal}

-- back to the start of the terminal's line, which is emptied (ECMA-48, 8.3.15 and 8.3.41)
abbrev pub line_start : List ℕ
line_start = 13 ∷ 27 ∷ codes "[K"

-- over what stands there: the calls so far, and the messages on their way
abbrev pub progress_text : ℕ → ℕ → List ℕ
progress_text calls waiting = line_start ++ decimal calls ++ codes " calls, " ++ decimal waiting
    ++ codes " messages wait"
