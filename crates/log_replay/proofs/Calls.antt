-- The line of a call, cut into its parts.
use Rattle.std.specs.Prelude.{◌≡◌, ◌↔◌, ℕ, ◌<◌, ◌==◌, Bool, false, List, [], ◌∷◌, ◌++◌, length, codes, Option, Some, None, Result, Ok, Err, IsTrue}
use Rattle.std.specs.Fmt.{decimal}
use Rattle.std.specs.List.{slice_split, AllByRecursion}
use Rattle.std.proofs.Common.{refl, sym, ap, ◌∙◌, subst, arith, append_assoc}
use Rattle.std.proofs.lemmas.Bool.{iff_false}
use Rattle.std.proofs.lemmas.List.Splits.{slice_split_at, slice_split_none}
use Rattle.decimal.specs.Digits.{IsDigit}
use Rattle.decimal.specs.Separators.{Lacks, lacks_test, decimal_lacks, cut_exact, not_lacks}
use Rattle.sim_event.specs.declared.event.Event.{Event}
use Rattle.log_text.specs.declared.version.Version.{Version}
use Rattle.log_text.specs.declared.version.Version.TheVariants.{Two}
use Rattle.log_text.specs.Logs.{call_line, command_text}
use Rattle.log_replay.specs.Replaying.{IsCallLine}
use Rattle.log_replay.specs.Reading.{IsSpaced, ReadsCall, ReadsCommand}

space_is_none : IsDigit 32 → ⊥
space_is_none digit = omega arith

abbrev IsSeat : List ℕ → Type 0
IsSeat text = (seat : ℕ) × (seat < 256) × (text ≡ decimal seat)

pub not_seat : (line rest text after : List ℕ) (r : Bool) → line ≡ 64 ∷ rest → rest ≡ text ++ (32 ∷ after) →
    Lacks 32 text → (IsTrue r ↔ IsSeat text) → r ≡ false
    → (seat : ℕ) (command : List ℕ) → seat < 256 → line ≡ codes "@" ++ decimal seat ++ codes " " ++ command → ⊥
not_seat line rest text after r begins cut lacks says fails seat command low same =
    let parts : codes "@" ++ decimal seat ++ codes " " ++ command ≡ 64 ∷ (decimal seat ++ (32 ∷ command)) =
    ap (λ t. 64 ∷ t) (append_assoc (decimal seat) (32 ∷ []) command) in
    let both : 64 ∷ (text ++ (32 ∷ after)) ≡ 64 ∷ (decimal seat ++ (32 ∷ command)) = ap (λ t. 64 ∷ t) (sym cut)
    ∙ sym begins ∙ same ∙ parts in
    let tails : text ++ (32 ∷ after) ≡ decimal seat ++ (32 ∷ command) = cc in
    let cuts = cut_exact 32 text (decimal seat) after command lacks (decimal_lacks 32 space_is_none seat) tails in
    iff_false says fails (seat, low, cuts.0)

-- there is no space after the sign
pub no_space : (line rest : List ℕ) → line ≡ 64 ∷ rest → Lacks 32 rest → (seat : ℕ) (command : List ℕ) →
    line ≡ codes "@" ++ decimal seat ++ codes " " ++ command → ⊥
no_space line rest begins lacks seat command same =
    let parts : codes "@" ++ decimal seat ++ codes " " ++ command ≡ 64 ∷ (decimal seat ++ (32 ∷ command)) =
    ap (λ t. 64 ∷ t) (append_assoc (decimal seat) (32 ∷ []) command) in
    let both : 64 ∷ rest ≡ 64 ∷ (decimal seat ++ (32 ∷ command)) = sym begins ∙ same ∙ parts in
    let tails : rest ≡ decimal seat ++ (32 ∷ command) = cc in
    not_lacks 32 (decimal seat) command (subst (Lacks 32) tails lacks)

-- the line of a call, and its command
pub call_cut : (v : Version) (line command : List ℕ) (event : Event) (seat : ℕ) →
    line ≡ codes "@" ++ decimal seat ++ codes " " ++ command → (call : IsCallLine v line event) →
    command ≡ command_text event
call_cut v line command event seat sign call =
    let first : codes "@" ++ decimal seat ++ codes " " ++ command ≡ 64 ∷ (decimal seat ++ (32 ∷ command)) =
    ap (λ t. 64 ∷ t) (append_assoc (decimal seat) (32 ∷ []) command) in
    let second : call_line call.0 event ≡ 64 ∷ (decimal call.0 ++ (32 ∷ command_text event)) =
    ap (λ t. 64 ∷ t) (append_assoc (decimal call.0) (32 ∷ []) (command_text event)) in
    let both : 64 ∷ (decimal seat ++ (32 ∷ command)) ≡ 64 ∷ (decimal call.0 ++ (32 ∷ command_text event)) = sym first
    ∙ sym sign ∙ call.2 ∙ second in
    let tails : decimal seat ++ (32 ∷ command) ≡ decimal call.0 ++ (32 ∷ command_text event) = cc in
    (cut_exact 32 (decimal seat) (decimal call.0) command (command_text event) (decimal_lacks 32 space_is_none seat)
    (decimal_lacks 32 space_is_none call.0) tails).1

-- the event of the command is that of the line
pub call_of_command : {E : Type 0} (line command : List ℕ) → (seat : ℕ) × (seat < 256)
    × (line ≡ codes "@" ++ decimal seat ++ codes " " ++ command) → (found : Result (Option Event) E) →
    ReadsCommand command found → ReadsCall Two line found
call_of_command line command sign (Ok (Some event)) h =
    (sign.0, (sign.1, h.0, h.1, refl), sign.2 ∙ ap (λ t. codes "@" ++ decimal sign.0 ++ codes " " ++ t) h.2)
call_of_command line command sign (Ok None) h = λ event call.
    h event (call.1.1, call.1.2, call_cut Two line command event sign.0 sign.2 call)
call_of_command line command sign (Err e) h = (
  h.0,
  (
    sign.0,
    (sign.1, h.1.0, h.1.1, refl),
    sign.2
        ∙ ap (λ t. codes "@" ++ decimal sign.0 ++ codes " " ++ t) h.1.2,
  ),
)

-- WORDS AND SPACES

abbrev split : List ℕ → List (List ℕ)
split text = slice_split (λ b. b == 32) text

abbrev AreSome : List (List ℕ) → Type 0
AreSome parts = AllByRecursion (λ word. 0 < length word) parts

split_cut : (rest word after : List ℕ) → rest ≡ word ++ (32 ∷ after) → Lacks 32 word → split rest ≡ word ∷ split after
split_cut rest word after whole lacks = ap split whole
    ∙ slice_split_at (λ b. b == 32) word 32 after (lacks_test 32 word lacks) refl

pub spaced_before : (rest word after : List ℕ) → rest ≡ word ++ (32 ∷ after) → Lacks 32 word → 0 < length word →
    IsSpaced after → IsSpaced rest
spaced_before rest word after whole lacks some h = subst AreSome (sym (split_cut rest word after whole lacks)) (some, h)

pub spaced_after : (rest word after : List ℕ) → rest ≡ word ++ (32 ∷ after) → Lacks 32 word → IsSpaced rest →
    (0 < length word) × IsSpaced after
spaced_after rest word after whole lacks h = subst AreSome (split_cut rest word after whole lacks) h

pub spaced_word : (rest : List ℕ) → Lacks 32 rest → 0 < length rest → IsSpaced rest
spaced_word rest lacks some = subst AreSome (sym (slice_split_none (λ b. b == 32) rest (lacks_test 32 rest lacks)))
    (some, tt)

pub word_spaced : (rest : List ℕ) → Lacks 32 rest → IsSpaced rest → 0 < length rest
word_spaced rest lacks h = (subst AreSome (slice_split_none (λ b. b == 32) rest (lacks_test 32 rest lacks)) h).0
