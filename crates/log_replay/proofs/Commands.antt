-- A command in a log, and the event that its line means.
use Rattle.std.specs.Prelude.{◌≡◌, ℕ, ◌<◌, ◌≤◌, ◌==◌, false, nat_lt, List, [], ◌∷◌, length, filter, Option, Some, None, Result, Ok, Err}
use Rattle.std.specs.List.{AllByRecursion, join_with_byte, slice_split}
use Rattle.std.proofs.Common.{refl, sym, ap, ◌∙◌, subst, arith}
use Rattle.std.proofs.lemmas.Bool.{cond-true, lt-ltb, true≢false}
use Rattle.std.proofs.lemmas.List.Splits.{slice_split_at, slice_split_none, join_with_byte-slice_split}
use Rattle.decimal.specs.Separators.{lacks_test}
use Rattle.net_conf.specs.declared.refusal.Refusal.{Refusal}
use Rattle.net_conf.specs.declared.refusal.Refusal.TheVariants.{Syntax, Memory}
use Rattle.sim_event.specs.declared.event.Event.{Event}
use Rattle.sim_event.specs.Events.{IsEvent}
use Rattle.command_text.specs.Words.{words_of}
use Rattle.command_text.specs.Lines.{tokens, are_silent, IsSilent, Means, IsFault, IsReading, most_command_bytes}
use Rattle.reply_text.specs.Visible.{visible_lacks}
use Rattle.log_text.specs.Logs.{command_text}
use Rattle.log_replay.specs.Reading.{IsSpaced, IsCommand, Spells}
use Rattle.log_replay.proofs.Words.{AreSolid, IsSpelled, spelled}

abbrev split : List ℕ → List (List ℕ)
split text = slice_split (λ b. b == 32) text

-- words, joined by spaces and split again
split_joined : (w : List ℕ) (ws : List (List ℕ)) → AreSolid (w ∷ ws) → split (join_with_byte 32 (w ∷ ws)) ≡ w ∷ ws
split_joined w [] h = slice_split_none (λ b. b == 32) w
    (lacks_test 32 w (visible_lacks 32 (λ over. omega arith) w h.0.1))
split_joined w (v ∷ vs) h =
    slice_split_at (λ b. b == 32) w 32 (join_with_byte 32 (v ∷ vs))
    (lacks_test 32 w (visible_lacks 32 (λ over. omega arith) w h.0.1)) refl
    ∙ ap (λ t. w ∷ t) (split_joined v vs h.1)

split_words : (words : List (List ℕ)) → IsSpelled words → split (join_with_byte 32 words) ≡ words
split_words [] h = absurd (true≢false h.loud)
split_words (w ∷ ws) h = split_joined w ws h.solid

abbrev AreSome : List (List ℕ) → Type 0
AreSome parts = AllByRecursion (λ word. 0 < length word) parts

some_solid : (words : List (List ℕ)) → AreSolid words → AreSome words
some_solid [] h = tt
some_solid (w ∷ ws) h = (h.0.0, some_solid ws h.1)

-- parts that are not empty are the words
kept : (parts : List (List ℕ)) → AreSome parts → filter (λ word. nat_lt 0 (length word)) parts ≡ parts
kept [] h = refl
kept (p ∷ ps) h = cond-true (nat_lt 0 (length p)) _ _ (lt-ltb 0 (length p) h.0) ∙ ap (λ t. p ∷ t) (kept ps h.1)

-- a command has single spaces
pub command_spaced : (e : Event) → IsEvent e → IsSpaced (command_text e)
command_spaced e is = subst AreSome (sym (split_words (words_of e) (spelled e is)))
    (some_solid (words_of e) (spelled e is).solid)

-- and its words are those of its event
pub command_tokens : (e : Event) → IsEvent e → tokens (command_text e) ≡ words_of e
command_tokens e is =
    let words = spelled e is in
    ap (filter (λ word. nat_lt 0 (length word))) (split_words (words_of e) words)
    ∙ kept (words_of e) (some_solid (words_of e) words.solid)

-- so it means it
pub command_means : (e : Event) → IsEvent e → length (command_text e) ≤ most_command_bytes → Means (command_text e) e
command_means e is short = (short, is, command_tokens e is)

-- a text with single spaces whose words are those of an event is its command
pub spaced_command : (text : List ℕ) (e : Event) → IsSpaced text → tokens text ≡ words_of e → text ≡ command_text e
spaced_command text e spaced means =
    sym (join_with_byte-slice_split 32 text) ∙ ap (join_with_byte 32) (sym (kept (split text) spaced) ∙ means)

-- WHAT READING ANSWERS

pub not_spaced : (text : List ℕ) → (IsSpaced text → ⊥) → Spells text None
not_spaced text other event is = other (subst IsSpaced (sym is.2) (command_spaced event is.0))

silent_event : (text : List ℕ) → IsSilent text → Spells text None
silent_event text silent event is =
    let words : tokens text ≡ words_of event = ap tokens is.2 ∙ command_tokens event is.0 in
    let loud : are_silent (tokens text) ≡ false = ap are_silent words ∙ (spelled event is.0).loud in
    absurd (true≢false (sym silent.1 ∙ loud))

meant : (text : List ℕ) (event : Event) → IsSpaced text → Means text event → IsCommand text event
meant text event spaced means =
    let same : text ≡ command_text event = spaced_command text event spaced means.2 in
    (means.1, subst (λ t. length t ≤ most_command_bytes) same means.0, same)

pub read_event : (text : List ℕ) (found : Option Event) → IsSpaced text → IsReading text (Ok found) → Spells text found
read_event text (Some event) spaced means = meant text event spaced means
read_event text None spaced silent = silent_event text silent

fault_event : (text : List ℕ) → IsFault text → Spells text None
fault_event text h event is = h.1 event (subst (λ t. Means t event) (sym is.2) (command_means event is.0 is.1))

pub read_fault : (text : List ℕ) (r : Refusal) → IsReading text (Err r) → (r ≡ Memory → ⊥) → Spells text None
read_fault text Syntax h other = fault_event text h
read_fault text Memory h other = absurd (other refl)
read_fault text _ h other = absurd h

pub read_memory : (text : List ℕ) (r : Refusal) → IsSpaced text → IsReading text (Err r) → r ≡ Memory → (event : Event)
    × IsCommand text event
read_memory text r spaced h is =
    let found = subst (λ x. IsReading text (let err : Result (Option Event) Refusal = Err x in err)) is h in
    (found.0, meant text found.0 spaced found.1)
