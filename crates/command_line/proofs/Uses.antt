-- What every use of an argument keeps of the rows, a whole parse keeps that has no fault.
use Rattle.std.proofs.Common.{◌≡◌, ℕ, zero, suc, Bool, ◌&&◌, cond, true, false, List, [], ◌∷◌, length, drop, Option, Some, None, is_some}
use Rattle.std.specs.Prelude.{IfSome, encode_utf8, find, fold, if◌then◌else◌, slice_get}
use Rattle.std.specs.List.{All}
use Rattle.std.specs.Option.{option_map_or}
use Rattle.std.specs.Str.{bytes_eq, chars}
use Rattle.std.proofs.lemmas.List.Elements.{All-head, All-tail}
use Rattle.clap.specs.Words.{Row, Rule, Shape, Text}
use Rattle.clap.specs.Kinds.{Kinds, or_else}
use Rattle.clap.specs.declared.error.kind.ErrorKind.TheVariants.{TooManyValues}
use Rattle.clap.specs.Lexer.{long_of, short_of}
use Rattle.clap.specs.Walk.{Held, Names, Outcome, Step, Waiting, Walk, after_flag, after_step, attached_value, arg_by_id, arg_by_index, arg_by_long, arg_by_short, bundle_met, bundle_step, done, flag_met, idle, is_pending, long_met, long_or_other, next, option, option_met, option_word, plain, plain_word, positional, positional_held, pushed, reacted, refused, settled, settled_rows, short_met, short_or_plain, subcommand, subcommand_met, subcommand_or_other, takes_several, takes_values, to_positional, trailing, used, used_by_id, value, waits, walked, walked_from, word_met}
use Rattle.clap.specs.Faults.{bundle_fault, bundle_step_fault, flag_word_fault, flags_fault, long_fault, option_fault, other_fault, positional_fault, react_fault, settle_fault, short_fault, step_fault, stray_fault, turn_fault, use_fault, walk_fault, word_fault}
use Rattle.command_line.proofs.Walks.{or_else_none}

module _ (s : Shape) (Good : List Row → Type 0) where
  abbrev rules : List Rule
  rules = s.rules

  abbrev again : Bool
  again = s.args_override_self

  -- a use of the argument that has no fault keeps what is good of the rows
  abbrev pub IsKeptBy : Rule → Type 0
  IsKeptBy a = (values : List Text) (rows : List Row) → use_fault again a values rows ≡ [] → Good rows →
      Good (used a values rows)

  finds : (p : Rule → Bool) (xs : List Rule) → All IsKeptBy xs → IfSome (find p xs) IsKeptBy
  finds p [] kept = tt
  finds p (a ∷ xs) kept = go (p a) (finds p xs (All-tail IsKeptBy a xs kept))
    where
      go : (b : Bool) → IfSome (find p xs) IsKeptBy → IfSome (cond b (Some a) (find p xs)) IsKeptBy
      go true rest = All-head IsKeptBy a xs kept
      go false rest = rest

  module _ (kept : All IsKeptBy rules) where
    pub settles : (h : Held) → settle_fault rules again h ≡ [] → Good h.rows → Good (settled rules h).rows
    settles h e good = go h.pending e
      where
        at : (p : Text × List Text) (a : Option Rule) → IfSome a IsKeptBy →
            option_map_or (λ b. use_fault again b p.1 h.rows) a [] ≡ [] → Good (used_by_id a p.1 h.rows)
        at p None k e = good
        at p (Some a) k e = k p.1 h.rows e good

        go : (p : Option (Text × List Text)) →
            option_map_or (λ q. option_map_or (λ b. use_fault again b q.1 h.rows) (arg_by_id rules q.0) []) p [] ≡ []
            → Good (settled_rows rules p h.rows)
        go None e = good
        go (Some p) e = at p (arg_by_id rules p.0) (finds _ rules kept) e

    reacts : (a : Rule) → IsKeptBy a → (values : List Text) (h : Held) → react_fault rules again a values h ≡ [] →
        Good h.rows → Good (reacted rules a values h).rows
    reacts a k values h e good =
        let both = or_else_none _ _ e in
        k values (settled rules h).rows both.1 (settles h both.0 good)

    options : (a : Rule) → IsKeptBy a → (v : Option Text) (h : Held) → option_fault rules again a v h ≡ [] →
        Good h.rows → Good (option_met rules a v h).0.rows
    options a k (Some v) h e good = reacts a k (v ∷ []) h e good
    options a k None h e good = settles h e good

    flags : (a : Rule) → IsKeptBy a → (v : Option Text) (h : Held) →
        (if is_some v then TooManyValues ∷ [] else react_fault rules again a [] h) ≡ [] → Good h.rows
        → Good (flag_met rules a v h).0.rows
    flags a k (Some v) h e good = good
    flags a k None h e good = reacts a k [] h e good

    longs : (a : Option Rule) → IfSome a IsKeptBy → (v : Option Text) (h : Held) → long_fault rules again a v h ≡ [] →
        Good h.rows → Good (long_met rules a v h).0.rows
    longs None k v h e good = good
    longs (Some a) k v h e good = go (takes_values a) e
      where
        go : (b : Bool) → (if b then option_fault rules again a v h
            else (if is_some v then TooManyValues ∷ [] else react_fault rules again a [] h)) ≡ []
            → Good (if b then option_met rules a v h else flag_met rules a v h).0.rows
        go true e = options a k v h e good
        go false e = flags a k v h e good

    shorts : (a : Option Rule) → IfSome a IsKeptBy →
        (rest : Text) (h : Held) (onward : Held → Held × Outcome) (fault : Held → Kinds)
        → ((after : Held) → fault after ≡ [] → Good after.rows → Good (onward after).0.rows)
        → short_fault rules again a rest h fault ≡ [] → Good h.rows → Good (short_met rules a rest h onward).0.rows
    shorts None k rest h onward fault goes e good = good
    shorts (Some a) k rest h onward fault goes e good = go (takes_values a) e
      where
        go : (b : Bool) → (if b then option_fault rules again a (attached_value rest) h
            else or_else (react_fault rules again a [] h) (fault (reacted rules a [] h))) ≡ []
            → Good (if b then option_met rules a (attached_value rest) h else onward (reacted rules a [] h)).0.rows
        go true e = options a k (attached_value rest) h e good
        go false e =
            let both = or_else_none _ _ e in
            goes (reacted rules a [] h) both.1 (reacts a k [] h both.0 good)

    bundles : (n : ℕ) (word : Text) (skip : ℕ) (so_far : Outcome) (h : Held) →
        flags_fault rules again n word skip h ≡ [] → Good h.rows
        → Good (bundle_met rules n word skip so_far h).0.rows
    unfolding bundle_met flags_fault
    bundles zero word skip so_far h e good = good
    bundles (suc n) word skip so_far h e good = go (slice_get (chars word) 0) skip (bundles n) e
      where
        go : (x : Option ℕ) (skip : ℕ)
            → ((word : Text) (skip : ℕ) (so_far : Outcome) (h : Held) → flags_fault rules again n word skip h ≡ [] →
            Good h.rows → Good (bundle_met rules n word skip so_far h).0.rows)
            → bundle_step_fault rules again x word skip h (flags_fault rules again n) ≡ []
            → Good (bundle_step rules x word skip so_far h (bundle_met rules n)).0.rows
        go None skip onward e = good
        go (Some x) zero onward e =
            let rest = drop (length (encode_utf8 x)) word in
            shorts (arg_by_short rules x) (finds _ rules kept) rest h (bundle_met rules n rest 0 done)
            (flags_fault rules again n rest 0)
            (onward rest 0 done) e good
        go (Some x) (suc skip) onward e = onward (drop (length (encode_utf8 x)) word) skip so_far h e good

    plains : (waiting : Waiting) (word : Text) (h : Held) → Good h.rows → Good (plain_word rules waiting word h).0.rows
    plains idle word h good = good
    plains positional word h good = good
    plains (option id) word h good = go (arg_by_id rules id)
      where
        go : (a : Option Rule) → Good (option_word a id word h).0.rows
        go None = good
        go (Some a) = good

    after_flags : (waiting : Waiting) (word : Text) (h : Held) (o : Outcome) → Good h.rows →
        Good (after_flag rules waiting word h o).0.rows
    after_flags waiting word h done good = good
    after_flags waiting word h (waits id) good = good
    after_flags waiting word h plain good = plains waiting word h good
    after_flags waiting word h refused good = plains waiting word h good

    -- a word that is no subcommand
    others : (waiting : Waiting) (word : Text) (h : Held) (long : Option (Text × Option Text)) →
        flag_word_fault rules again long word h ≡ [] → Good h.rows
        → Good (long_or_other rules waiting word long h).0.rows
    others waiting word h (Some p) e good =
        after_flags waiting word _ _ (longs (arg_by_long rules p.0) (finds _ rules kept) p.1 h e good)
    others waiting word h None e good = go (short_of word) e
      where
        go : (short : Option Text) → option_map_or (λ f. bundle_fault rules again f h) short [] ≡ [] →
            Good (short_or_plain rules waiting word short h).0.rows
        go (Some f) e = after_flags waiting word _ _ (bundles (length f) f h.skip plain (record h { skip = 0 }) e good)
        go None e = plains waiting word h good

    module _ (names : Names) (w : Walk) (word : Text) where
      meets : (found : Option Text) → other_fault s found word w.held ≡ [] → Good w.held.rows
          → Good (subcommand_or_other rules found w.waiting w.position word w.held).0.rows
      meets (Some name) e good = good
      meets None e good = go (bytes_eq word (45 ∷ 45 ∷ [])) e
        where
          go : (b : Bool) → (if b then [] else flag_word_fault rules again (long_of word) word w.held) ≡ []
              → Good (if b then (w.held, trailing w.position)
              else long_or_other rules w.waiting word (long_of word) w.held).0.rows
          go true e = good
          go false e = others w.waiting word w.held (long_of word) e good

      words : (is_trailing : Bool) → word_fault s names is_trailing w.waiting word w.held ≡ [] → Good w.held.rows
          → Good (word_met rules names is_trailing w.waiting w.position word w.held).0.rows
      words true e good = good
      words false e good = meets (subcommand_met names w.waiting word) e good

      places : (a : Rule) (h : Held) → positional_fault rules again a h ≡ [] → Good h.rows →
          Good (positional_held rules a word h).rows
      places a h e good = go (is_pending a h.pending && takes_several a) e
        where
          go : (b : Bool) → (if b then [] else settle_fault rules again h) ≡ [] →
              Good (pushed a.id word (if b then h else settled rules h)).rows
          go true e = good
          go false e = settles h e good

      steps : (h : Held) (step : Step) → step_fault s w.position h step ≡ [] → Good h.rows →
          Good (after_step rules word w h step).held.rows
      steps h (next waiting) e good = good
      steps h (trailing position) e good = good
      steps h (subcommand name) e good = good
      steps h value e good = go (arg_by_index rules w.position) e
        where
          go : (a : Option Rule) → option_map_or (λ b. positional_fault rules again b h) a (stray_fault s) ≡ [] →
              Good (to_positional rules a word w h).held.rows
          go None e = good
          go (Some a) e = places a h e good

      turns : turn_fault s names w word ≡ [] → Good w.held.rows → Good (walked rules names w word).held.rows
      unfolding walked
      turns e good = go w.stopped e
        where
          go : (stop : Option (Text × List Text))
              → (if is_some stop then [] else or_else (word_fault s names w.is_trailing w.waiting word w.held)
              (step_fault s w.position (word_met rules names w.is_trailing w.waiting w.position word w.held).0
              (word_met rules names w.is_trailing w.waiting w.position word w.held).1)) ≡ []
              → Good (walked_from rules names stop w word).held.rows
          go (Some p) e = good
          go None e =
              let both = or_else_none _ _ e in
              let met = word_met rules names w.is_trailing w.waiting w.position word w.held in
              steps met.0 met.1 both.1 (words w.is_trailing both.0 good)

    pub walks : (names : Names) (w : Walk) (ws : List Text) → walk_fault s names w ws ≡ [] → Good w.held.rows →
        Good (fold (walked rules names) w ws).held.rows
    unfolding walk_fault
    walks names w [] e good = good
    walks names w (word ∷ ws) e good =
        let both = or_else_none _ _ e in
        walks names (walked rules names w word) ws both.1 (turns names w word both.0 good)
