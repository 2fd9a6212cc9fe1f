-- The first byte of a kind, as a search finds it.
use Rattle.std.proofs.Common.{◌≡◌, ℕ, false, cond, eqb, ltb, List, length, position, Option, Some, None, sym, ap, ◌∙◌, arith}
use Rattle.std.specs.List.{position_or_len}
use Rattle.std.proofs.lemmas.Bool.{cond-true, lt-ltb, false_from_ne_true}
use Rattle.std.proofs.lemmas.List.Elements.{All-from_get_or}
use Rattle.std.proofs.lemmas.List.Sums.{position_or_len_is}
use Rattle.memchr.specs.Find.{IsFirstByte, is_byte}
use Rattle.watched.specs.LineFeeds.{is_line_feed, position_none}

-- the first line feed
pub first_byte : (bytes : List ℕ) (found : Option ℕ) → IsFirstByte (is_byte 10) bytes found →
    found ≡ position is_line_feed bytes
first_byte bytes None h =
    sym (position_none bytes
    (All-from_get_or (λ b. eqb b 10 ≡ false) bytes 0 (λ i l. false_from_ne_true _ (h i (omega arith) l))))
first_byte bytes (Some k) h =
    let last : position_or_len is_line_feed bytes ≡ k =
    position_or_len_is is_line_feed bytes k 0 (omega (arith, h.0.high))
    (λ i l. false_from_ne_true _ (h.0.before i (omega arith) l)) (λ l. h.1) in
    sym (ap (λ n. cond (ltb n (length bytes)) (Some n) None) last
    ∙ cond-true (ltb k (length bytes)) (Some k) None (lt-ltb k (length bytes) h.0.high))
