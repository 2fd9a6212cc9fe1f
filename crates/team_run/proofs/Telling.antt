-- What a write tells, and texts that are told one after another.
use Rattle.std.proofs.Common.{◌≡◌, List, [], ◌∷◌, ◌++◌, ℕ, ◌+◌, ◌<◌, Result, Ok, Err, get_or, length, map, take, refl, sym, ap, ◌∙◌, subst, append-nil, inl, inr}
use Rattle.std.proofs.lemmas.List.{map-append, map_more, take_more}
use Rattle.std.proofs.lemmas.List.Concat.{flat_map-append}
use Rattle.boxcar.specs.Table.{Where}
use Rattle.watched.specs.Streams.{Writing, Writes}
use Rattle.reply_text.specs.Ending.{IsTold}
use Rattle.team_run.specs.declared.told.ToldLine.{ToldLine}
use Rattle.team_run.specs.Playing.{all_told}
use Rattle.team_run.specs.TeamRun.{AreTold, told_text}

module _ {E : Type 0} where
  pub told_by : (old new : Writing) (text : List ℕ) (result : Result Unit E) → Writes old text result new →
      IsTold old text new
  told_by old new text (Ok u) h = inl h.0
  told_by old new text (Err e) h = inr (h.1, h.0)

pub told_behind : (old now new : Writing) (texts more : List (List ℕ)) → AreTold old texts now → AreTold now more new →
    AreTold old (texts ++ more) new
told_behind old now new [] more is told = subst (λ (w : Writing). AreTold w more new) is told
told_behind old now new (text ∷ texts) more all told = (all.0, all.1, told_behind all.0 now new texts more all.2 told)

-- one text more
pub told_more : (old now new : Writing) (texts : List (List ℕ)) (text : List ℕ) → AreTold old texts now →
    IsTold now text new → AreTold old (texts ++ text ∷ []) new
told_more old now new texts text all told = told_behind old now new texts (text ∷ []) all (new, told, refl)

-- one line more, read by its token
pub told_token : (old now new : Writing) (tokens : List (Where ToldLine)) (i : ℕ) (token : Where ToldLine)
    (line : ToldLine) → i < length tokens → token ≡ get_or tokens i token → line ≡ token.value
    → AreTold old (map told_text (map (λ (p : Where ToldLine). p.value) (take i tokens))) now
    → IsTold now (told_text line) new →
    AreTold old (map told_text (map (λ (p : Where ToldLine). p.value) (take (i + 1) tokens))) new
told_token old now new tokens i token line low is same all told =
    let before : List ToldLine = map (λ (p : Where ToldLine). p.value) (take i tokens) in
    let lines_are : map (λ (p : Where ToldLine). p.value) (take (i + 1) tokens) ≡ before ++ token.value ∷ [] =
    map_more (λ (p : Where ToldLine). p.value) tokens i token low
    ∙ ap (λ (t : Where ToldLine). before ++ t.value ∷ []) (sym is) in
    let texts_are : map told_text (map (λ (p : Where ToldLine). p.value) (take (i + 1) tokens))
    ≡ map told_text before ++ told_text line ∷ [] =
    ap (map told_text) lines_are ∙ map-append told_text before (token.value ∷ [])
    ∙ ap (λ (l : ToldLine). map told_text before ++ told_text l ∷ []) (sym same) in
    subst (λ (texts : List (List ℕ)). AreTold old texts new) (sym texts_are)
    (told_more old now new (map told_text before) (told_text line) all told)

-- one list of lines more
pub told_lists : (old now new : Writing) (lists : List (List ToldLine)) (i : ℕ) (list : List ToldLine)
    → i < length lists → list ≡ get_or lists i list
    → AreTold old (map told_text (all_told (take i lists))) now → AreTold now (map told_text list) new →
    AreTold old (map told_text (all_told (take (i + 1) lists))) new
told_lists old now new lists i list low is all told =
    let one : List (List ToldLine) = list ∷ [] in
    let first : take (i + 1) lists ≡ take i lists ++ one =
    take_more lists i list low ∙ ap (λ (l : List ToldLine). take i lists ++ l ∷ []) (sym is) in
    let lists_are : all_told (take (i + 1) lists) ≡ all_told (take i lists) ++ list =
    ap all_told first ∙ flat_map-append (λ (l : List ToldLine). l) (take i lists) one
    ∙ ap (λ (l : List ToldLine). all_told (take i lists) ++ l) (append-nil list) in
    let texts_are : map told_text (all_told (take (i + 1) lists))
    ≡ map told_text (all_told (take i lists)) ++ map told_text list =
    ap (map told_text) lists_are ∙ map-append told_text (all_told (take i lists)) list in
    subst (λ (texts : List (List ℕ)). AreTold old texts new) (sym texts_are)
    (told_behind old now new (map told_text (all_told (take i lists))) (map told_text list) all told)
