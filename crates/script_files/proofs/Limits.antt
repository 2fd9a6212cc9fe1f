-- Scripts within the limits, as they are read byte by byte.
use Rattle.std.proofs.Common.{◌≡◌, ℕ, ◌+◌, ◌-◌, ◌<◌, ◌≤◌, Bool, true, false, cond, eqb, List, [], ◌∷◌, ◌++◌, length, take, drop, get_or, Option, Some, None, All, refl, sym, ap, ◌∙◌, subst, arith, append_assoc, append-nil}
use Rattle.std.specs.Io.KnownBytes.{Consumes}
use Rattle.std.specs.Str.Lines.{lines, strip_carriage_return}
use Rattle.std.proofs.lemmas.List.{take-append-drop, drop_more, get_or_at, length_push, length-append, length-take-le, nil_from_length}
use Rattle.std.proofs.lemmas.List.Elements.{All-push, All-nil, All-same}
use Rattle.watched.specs.LineFeeds.{Whole}
use Rattle.script_files.specs.Sources.{IsFit, IsUnfit, IsWhole}
use Rattle.script_files.specs.Reading.{IsMeasured, is_returned}
use Rattle.script_files.specs.declared.files.Measure.{Measure}
use Rattle.watched.specs.Limits.{most_bytes, most_lines}
use Rattle.watched.proofs.Lines.{lines_begin, lines_cut, lines_long, lines_whole}
use Rattle.script_files.proofs.ScriptLines.{strip_shorter}

-- ---- what no script has

-- a line that is too long
too_long : (script : List ℕ) (whole : List (List ℕ)) (line : List ℕ) (more : List (List ℕ)) →
    lines script ≡ whole ++ line ∷ more → most_bytes < length line → IsFit script → ⊥
too_long script whole line more cut long fit =
    let at : get_or (lines script) (length whole) [] ≡ line = ap (λ ls. get_or ls (length whole) []) cut
    ∙ get_or_at whole line more [] (length whole) refl in
    let count : length (lines script) ≡ length whole + length (line ∷ more) = ap length cut
    ∙ length-append whole (line ∷ more) in
    let short : length (get_or (lines script) (length whole) []) ≤ most_bytes =
    fit.1 (length whole) [] (omega (arith, count)) in
    absurd (omega (arith, ap length at, short, long))

-- a line too many
too_many : (script : List ℕ) (whole : List (List ℕ)) (line : List ℕ) (more : List (List ℕ)) →
    lines script ≡ whole ++ line ∷ more → most_lines ≤ length whole → IsFit script → ⊥
too_many script whole line more cut many fit =
    let count : length (lines script) ≡ length whole + length (line ∷ more) = ap length cut
    ∙ length-append whole (line ∷ more) in
    absurd (omega (arith, count, fit.0))

-- ---- nothing was read

pub measured_none : (m : Measure) → m.lines ≡ 0 → m.length ≡ 0 → m.is_returned ≡ false → IsMeasured [] m
measured_none m lines_are length_is returned_is = record {
  whole = [];
  part = [];
  cut = λ rest. refl;
  short = All-nil (λ line. length line ≤ most_bytes);
  one_line = All-nil (λ b. eqb b 10 ≡ false);
  counted = lines_are;
  long = length_is;
  returned = returned_is;
  few = omega arith;
  room = λ some. omega arith;
  most = omega arith;
}

-- ---- a byte more

-- that is no line feed
pub measured_byte : (read : List ℕ) (byte : ℕ) (m n : Measure) → IsMeasured read m → eqb byte 10 ≡ false →
    m.lines < most_lines → m.length ≤ most_bytes
    → n.lines ≡ m.lines → n.length ≡ m.length + 1 → n.is_returned ≡ eqb byte 13 → IsMeasured (read ++ byte ∷ []) n
measured_byte read byte m n so other low short lines_are length_is returned_is =
    let part = so.part ++ byte ∷ [] in
    let len = length_push so.part byte in
    let last : get_or part (length part - 1) 0 ≡ byte =
    get_or_at so.part byte [] 0 (length part - 1) (omega (arith, len)) in record {
      whole = so.whole;
      part = part;
      cut = λ rest. ap lines (append_assoc read (byte ∷ []) rest) ∙ so.cut (byte ∷ rest)
          ∙ ap (λ t. so.whole ++ lines t) (sym (append_assoc so.part (byte ∷ []) rest));
      short = so.short;
      one_line = All-push (λ b. eqb b 10 ≡ false) so.part byte so.one_line other;
      counted = lines_are ∙ so.counted;
      long = length_is ∙ ap (λ k. k + 1) so.long ∙ sym len;
      returned = returned_is ∙ ap (λ b. eqb b 13) (sym last);
      few = so.few;
      room = λ some. omega (arith, so.counted);
      most = omega (arith, so.long, len);
    }

-- a line feed, after a line that is not too long
pub measured_line : (read : List ℕ) (m n : Measure) → IsMeasured read m → m.lines < most_lines →
    (m.is_returned ≡ false → m.length ≤ most_bytes)
    → n.lines ≡ m.lines + 1 → n.length ≡ 0 → n.is_returned ≡ false → IsMeasured (read ++ 10 ∷ []) n
measured_line read m n so low fits lines_are length_is returned_is =
    let line = strip_carriage_return so.part in
    let len = length_push so.whole line in record {
      whole = so.whole ++ line ∷ [];
      part = [];
      cut = λ rest.
          ap lines (append_assoc read (10 ∷ []) rest)
          ∙ so.cut (10 ∷ rest)
          ∙ ap (λ ls. so.whole ++ ls) (lines_cut so.part rest so.one_line)
          ∙ sym (append_assoc so.whole (line ∷ []) (lines rest));
      short = All-push (λ l. length l ≤ most_bytes) so.whole line so.short
          (stripped so.part (is_returned so.part) refl so.most
          (λ none. omega (arith, so.long, fits (so.returned ∙ none))));
      one_line = All-nil (λ b. eqb b 10 ≡ false);
      counted = lines_are ∙ ap (λ k. k + 1) so.counted ∙ sym len;
      long = length_is;
      returned = returned_is;
      few = omega (arith, so.counted, len);
      room = λ some. absurd (omega arith);
      most = omega arith;
    }
  where
    stripped : (part : List ℕ) (returned : Bool) → is_returned part ≡ returned → length part ≤ most_bytes + 1 →
        (is_returned part ≡ false → length part ≤ most_bytes) → length (strip_carriage_return part) ≤ most_bytes
    stripped part true is most short =
        let front = length part - 1 in
        let same : strip_carriage_return part ≡ take front part = ap (λ b. cond b (take front part) part) is in
        omega (arith, ap length same, length-take-le front part (omega arith))
    stripped part false is most short = omega (arith, strip_shorter part, short is)

-- a byte after as many lines as a script may have
pub unfit_many : (read left : List ℕ) (byte : ℕ) (m : Measure) → IsMeasured read m → most_lines ≤ m.lines →
    IsFit (read ++ byte ∷ left) → ⊥
unfit_many read left byte m so many fit =
    let begins = lines_begin (so.part ++ byte ∷ left) (omega (arith, length-append so.part (byte ∷ left))) in
    too_many (read ++ byte ∷ left) so.whole begins.0 begins.1 (so.cut (byte ∷ left)
    ∙ ap (λ ls. so.whole ++ ls) begins.2) (omega (arith, so.counted)) fit

-- a line feed after a line that is too long
pub unfit_line : (read left : List ℕ) (m : Measure) → IsMeasured read m → most_bytes < m.length →
    m.is_returned ≡ false → IsFit (read ++ 10 ∷ left) → ⊥
unfit_line read left m so long none fit =
    let front = length so.part - 1 in
    let same : strip_carriage_return so.part ≡ so.part =
    ap (λ b. cond b (take front so.part) so.part) (sym so.returned ∙ none) in
    too_long (read ++ 10 ∷ left) so.whole (strip_carriage_return so.part) (lines left) (so.cut (10 ∷ left)
    ∙ ap (λ ls. so.whole ++ ls) (lines_cut so.part left so.one_line))
    (omega (arith, ap length same, so.long)) fit

-- another byte after so many
pub unfit_byte : (read left : List ℕ) (byte : ℕ) (m : Measure) → IsMeasured read m → eqb byte 10 ≡ false →
    most_bytes < m.length → IsFit (read ++ byte ∷ left) → ⊥
unfit_byte read left byte m so other long fit =
    let part = so.part ++ byte ∷ [] in
    let begins = lines_long part left most_bytes (All-push (λ b. eqb b 10 ≡ false) so.part byte so.one_line other)
    (omega (arith, length_push so.part byte, so.long)) in
    too_long (read ++ byte ∷ left) so.whole begins.0 begins.1
    (so.cut (byte ∷ left) ∙ ap (λ t. so.whole ++ lines t) (sym (append_assoc so.part (byte ∷ []) left))
    ∙ ap (λ ls. so.whole ++ ls) begins.2) begins.3 fit

-- ---- the end

at_end : (read : List ℕ) (m : Measure) (so : IsMeasured read m) → lines read ≡ so.whole ++ lines so.part
at_end read m so = ap lines (sym (append-nil read)) ∙ so.cut [] ∙ ap (λ t. so.whole ++ lines t) (append-nil so.part)

pub fit_end : (read : List ℕ) (m : Measure) → IsMeasured read m → m.length ≤ most_bytes → IsFit read
fit_end read m so short = by so.part refl
  where
    by : (part : List ℕ) → so.part ≡ part → IsFit read
    by [] is =
        let all : lines read ≡ so.whole = at_end read m so ∙ ap (λ t. so.whole ++ lines t) is ∙ append-nil so.whole in
        (omega (arith, ap length all, so.few), All-same (λ l. length l ≤ most_bytes) (lines read) so.whole all so.short)
    by (b ∷ bs) is =
        let some : 0 < length so.part = omega (arith, ap length is) in
        let all : lines read ≡ so.whole ++ so.part ∷ [] = at_end read m so
        ∙ ap (λ ls. so.whole ++ ls) (lines_whole so.part so.one_line some) in (
          omega (arith, ap length all, length_push so.whole so.part, so.room some),
          All-same (λ l. length l ≤ most_bytes) (lines read) (so.whole ++ so.part ∷ []) all
              (All-push (λ l. length l ≤ most_bytes) so.whole so.part so.short (omega (arith, so.long))),
        )

pub unfit_end : (read : List ℕ) (m : Measure) → IsMeasured read m → most_bytes < m.length → IsFit read → ⊥
unfit_end read m so long fit =
    let some : 0 < length so.part = omega (arith, so.long) in
    too_long read so.whole so.part [] (at_end read m so
    ∙ ap (λ ls. so.whole ++ ls) (lines_whole so.part so.one_line some)) (omega (arith, so.long)) fit

-- ---- what is left

-- the reader gave what was read before what is left
pub unfit_whole : (old left : Option (List ℕ)) (read : List ℕ) → Consumes old left read →
    IsUnfit read left → IsUnfit [] old
unfit_whole None left read gave unfit = tt
unfit_whole (Some all) None read gave unfit = absurd gave
unfit_whole (Some all) (Some bytes) read gave unfit = λ fit. unfit (subst IsFit gave fit)

-- bytes that no script begins with were read
pub unfit_read : (old new : Option (List ℕ)) (read bytes : List ℕ) → Consumes old new bytes →
    ((left : List ℕ) → IsFit (read ++ (bytes ++ left)) → ⊥) → IsUnfit read old
unfit_read None new read bytes gave none = tt
unfit_read (Some all) None read bytes gave none = absurd gave
unfit_read (Some all) (Some left) read bytes gave none = λ fit. none left (subst (λ t. IsFit (read ++ t)) gave fit)

-- all was read, and is no script
pub unfit_at_end : (old : Option (List ℕ)) (read : List ℕ) → IsWhole old read → (IsFit read → ⊥) → IsUnfit [] old
unfit_at_end None read whole none = tt
unfit_at_end (Some all) read whole none = λ fit. none (subst IsFit whole fit)

-- ---- one byte among others

pub cut_at_byte : (read bytes left : List ℕ) (i : ℕ) → i < length bytes →
    read ++ (bytes ++ left) ≡ (read ++ take i bytes) ++ (get_or bytes i 0 ∷ (drop (i + 1) bytes ++ left))
cut_at_byte read bytes left i within =
    let front = take i bytes in
    let back = get_or bytes i 0 ∷ drop (i + 1) bytes in
    let cut : bytes ≡ front ++ back = sym (take-append-drop i bytes)
    ∙ ap (λ t. front ++ t) (drop_more bytes i 0 within) in
    ap (λ b. read ++ (b ++ left)) cut ∙ ap (λ t. read ++ t) (append_assoc front back left)
    ∙ sym (append_assoc read front (back ++ left))
