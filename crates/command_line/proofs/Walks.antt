-- What a walk of `clap` over words comes to that has no fault: it never stops at `help`.
use Rattle.std.proofs.Common.{◌≡◌, ap, sym, subst, refl, ℕ, Bool, true, false, true≢false, not, ◌&&◌, List, [], ◌∷◌, Option, Some, None, inl, inr, codes, arith, ◌||◌, Decides}
use Rattle.std.specs.Prelude.{◌⊎◌, IfSome, suc, length, fold, if◌then◌else◌}
use Rattle.std.specs.Str.{bytes_eq}
use Rattle.clap.specs.Words.{Text, Rule, Shape}
use Rattle.clap.specs.Walk.{Held, Names, Outcome, Step, Waiting, Walk, idle, option, positional, next, trailing, subcommand, value, done, waits, plain, refused, after_flag, after_step, arg_by_index, long_or_other, nothing_held, plain_word, short_or_plain, subcommand_met, subcommand_or_other, to_positional, walk as walk_of, walk_from, rows_after, finished, settled, walked, answers_to}
use Rattle.clap.specs.Lexer.{long_of, short_of}
use Rattle.clap.specs.Kinds.{Kinds, or_else}
use Rattle.clap.specs.declared.error.kind.ErrorKind.{ErrorKind}
use Rattle.clap.specs.declared.error.kind.ErrorKind.TheVariants.{DisplayHelp, InvalidSubcommand}
use Rattle.clap.specs.Faults.{check_fault, defaults_fault, level_fault, other_fault, settle_fault, turn_fault, walk_fault}
use Rattle.std.proofs.lemmas.Slice.Eq.{bytes_eq-Decides}
use Rattle.clap.proofs.WalkLemmas.{walk_stopped}

pub some_fault : (k : ErrorKind) (ks : Kinds) → k ∷ ks ≡ [] → ⊥
some_fault k ks e = let bad : suc (length ks) ≡ 0 = ap length e in omega arith

pub or_else_none : (a b : Kinds) → or_else a b ≡ [] → (a ≡ []) × (b ≡ [])
or_else_none [] b e = (refl, e)
or_else_none (k ∷ ks) b e = absurd (some_fault k ks e)

abbrev is_met : Step → Bool
is_met (subcommand name) = true
is_met _ = false

abbrev begun : Walk → Walk
begun w = record w { stopped = None }

module _ (s : Shape) (names : Names) (w : Walk) (word : Text) where
  plain_goes : (waiting : Waiting) (h : Held) → is_met (plain_word s.rules waiting word h).1 ≡ false
  plain_goes (option id) h = refl
  plain_goes idle h = refl
  plain_goes positional h = refl

  flag_goes : (waiting : Waiting) (h : Held) (o : Outcome) → is_met (after_flag s.rules waiting word h o).1 ≡ false
  flag_goes waiting h done = refl
  flag_goes waiting h (waits id) = refl
  flag_goes waiting h plain = plain_goes waiting h
  flag_goes waiting h refused = plain_goes waiting h

  short_goes : (waiting : Waiting) (flags : Option Text) (h : Held) →
      is_met (short_or_plain s.rules waiting word flags h).1 ≡ false
  short_goes waiting (Some flags) h = flag_goes waiting _ _
  short_goes waiting None h = plain_goes waiting h

  long_goes : (waiting : Waiting) (name : Option (Text × Option Text)) (h : Held) →
      is_met (long_or_other s.rules waiting word name h).1 ≡ false
  long_goes waiting (Some p) h = flag_goes waiting _ _
  long_goes waiting None h = short_goes waiting (short_of word) h

  other_goes : (waiting : Waiting) (position : ℕ) (h : Held) →
      is_met (subcommand_or_other s.rules None waiting position word h).1 ≡ false
  other_goes waiting position h = go (bytes_eq word (45 ∷ 45 ∷ []))
    where
      go : (b : Bool) → is_met (if b then (h, trailing position)
          else long_or_other s.rules waiting word (long_of word) h).1 ≡ false
      go true = refl
      go false = long_goes waiting (long_of word) h

  stays : (h : Held) (step : Step) → is_met step ≡ false → (after_step s.rules word (begun w) h step).stopped ≡ None
  stays h (next waiting) e = refl
  stays h (trailing position) e = refl
  stays h (subcommand name) e = absurd (true≢false e)
  stays h value e = go (arg_by_index s.rules w.position)
    where
      go : (a : Option Rule) → (to_positional s.rules a word (begun w) h).stopped ≡ None
      go None = refl
      go (Some a) = refl

  -- after the word: no subcommand was met, or this one, which is not `help`
  abbrev IsOn : Walk → Type 0
  IsOn v = (v.stopped ≡ None) ⊎ ((name : Text) × (bytes_eq name (codes "help") ≡ false)
      × (v ≡ record v { stopped = Some (name, []) }))

  abbrev met_at : Bool → Option Text → Held × Step
  met_at is_trailing found = if is_trailing then (w.held, value)
      else subcommand_or_other s.rules found w.waiting w.position word w.held

  abbrev fault_at : Bool → Option Text → Kinds
  fault_at is_trailing found = if is_trailing then [] else other_fault s found word w.held

  no_help : s.disable_help_subcommand ≡ false → (name : Text) → other_fault s (Some name) word w.held ≡ [] →
      bytes_eq name (codes "help") ≡ false
  no_help on name = go (bytes_eq name (codes "help")) s.disable_help_subcommand on
    where
      go : (is_help disabled : Bool) → disabled ≡ false →
          (if is_help && not disabled then DisplayHelp ∷ InvalidSubcommand ∷ [] else []) ≡ [] → is_help ≡ false
      go false disabled off e = refl
      go true true off e = absurd (true≢false off)
      go true false off e = absurd (some_fault _ _ e)

  goes_on : s.disable_help_subcommand ≡ false → (is_trailing : Bool) (found : Option Text) →
      fault_at is_trailing found ≡ []
      → IsOn (after_step s.rules word (begun w) (met_at is_trailing found).0 (met_at is_trailing found).1)
  goes_on on true found e = inl (stays w.held value refl)
  goes_on on false None e = inl (stays _ _ (other_goes w.waiting w.position w.held))
  goes_on on false (Some name) e = inr (name, no_help on name e, refl)

  one_word : s.disable_help_subcommand ≡ false → turn_fault s names (begun w) word ≡ [] →
      IsOn (walked s.rules names (begun w) word)
  unfolding walked
  one_word on e = goes_on on w.is_trailing (subcommand_met names w.waiting word) (or_else_none _ _ e).0

abbrev pub IsNoHelp : Option (Text × List Text) → Type 0
IsNoHelp stop = IfSome stop (λ p. bytes_eq p.0 (codes "help") ≡ false)

module _ (s : Shape) (names : Names) (on : s.disable_help_subcommand ≡ false) where
  pub no_help_met : (w : Walk) (words : List Text) → walk_fault s names (begun w) words ≡ [] →
      IsNoHelp (fold (walked s.rules names) (begun w) words).stopped
  unfolding walk_fault
  no_help_met w [] e = tt
  no_help_met w (word ∷ rest) e =
      let both = or_else_none _ _ e in
      let after = walked s.rules names (begun w) word in
      elim (one_word s names w word on both.0) [
        | inl none ↦
            let same : after ≡ begun after = λ i. record after { stopped = none i } in
            subst (λ v. IsNoHelp (fold (walked s.rules names) v rest).stopped) (sym same)
            (no_help_met after rest (subst (λ v. walk_fault s names v rest ≡ []) same both.1))
        | inr met ↦
            subst (λ v. IsNoHelp (fold (walked s.rules names) v rest).stopped) (sym met.2)
            (subst (λ (v : Walk). IsNoHelp v.stopped) (walk_stopped s.rules names after met.0 [] rest) met.1)
      ]

-- a name without aliases answers to itself alone
pub is_word : (name word : Text) → answers_to word (name, []) ≡ true → word ≡ name
is_word name word e = go (bytes_eq name word) (bytes_eq-Decides name word) e
  where
    go : (b : Bool) → Decides b (name ≡ word) → (b || false) ≡ true → word ≡ name
    go true h e = sym (h.0 refl)
    go false h e = absurd (true≢false (sym e))

-- a level of a parse that has no fault, in none of its steps
pub record IsFree (s : Shape) (names : Names) (words : List Text) (has : Bool) (entered : Kinds) : Type 0 where
  pub walk : walk_fault s names (walk_from nothing_held) words ≡ []
  pub below : entered ≡ []
  pub settle : settle_fault s.rules s.args_override_self (walk_of s.rules names nothing_held words).held ≡ []
  pub check : check_fault s (rows_after s.rules names words) has ≡ []

pub level_free : (s : Shape) (names : Names) (words : List Text) (has : Bool) (below : Kinds) →
    level_fault s names nothing_held words has below ≡ [] → IsFree s names words has below
level_free s names words has below e =
    let end = (walk_of s.rules names nothing_held words).held in
    let check = check_fault s (finished s.rules end) has in
    let defaults = defaults_fault (settled s.rules end).rows s.rules in
    let settle = settle_fault s.rules s.args_override_self end in
    let walk_free = or_else_none (walk_fault s names (walk_from nothing_held) words)
    (or_else below (or_else settle (or_else defaults check))) e in
    let below_free = or_else_none below (or_else settle (or_else defaults check)) walk_free.1 in
    let settle_free = or_else_none settle (or_else defaults check) below_free.1 in
    record {
      walk = walk_free.0;
      below = below_free.0;
      settle = settle_free.0;
      check = (or_else_none defaults check settle_free.1).1;
    }
