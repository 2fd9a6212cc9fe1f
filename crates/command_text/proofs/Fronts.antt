-- What stands at the front of a text, and its words.
use Rattle.std.proofs.Common.{◌≡◌, ℕ, ◌+◌, ◌*◌, ◌/◌, ◌%◌, ◌^◌, ◌<◌, List, [], ◌∷◌, ◌++◌, ◌≤◌, length, length-append, append_assoc, append-nil, Option, Some, None, sym, ap, ◌∙◌, arith}
use Rattle.std.specs.Option.{IfSome}
use Rattle.std.specs.Fmt.{decimal}
use Rattle.std.proofs.lemmas.Fmt.{decimal_digit, decimal_step}
use Rattle.net_prefix.specs.declared.addr.Addr.{Addr}
use Rattle.net_prefix.specs.Address.{octet, addr_text}
use Rattle.net_prefix.specs.AddressText.{IsAddressByte, IsPrefixByte, addr_text_lacks, addr_text_some}
use Rattle.net_prefix.specs.Prefix.{Prefix, prefix_text}
use Rattle.net_prefix.specs.PrefixText.{prefix_text_lacks, prefix_text_some}
use Rattle.command_text.specs.Lines.{tokens}
use Rattle.command_text.proofs.Tokens.{word_first}

-- one digit more
pub decimal_more : (k n : ℕ) → 0 < k → k < 2 ^ 32 → n < 10 → decimal (k * 10 + n) ≡ decimal k ++ ((48 + n) ∷ [])
decimal_more k n some small digit =
    let above : (k * 10 + n) / 10 ≡ k = omega arith in
    let last : (k * 10 + n) % 10 ≡ n = omega arith in
    decimal_step (k * 10 + n) (omega arith) (omega arith) ∙ ap (λ d. decimal d ++ ((48 + (k * 10 + n) % 10) ∷ [])) above
    ∙ ap (λ d. decimal k ++ ((48 + d) ∷ [])) last

-- a digit
pub one_read : (b : ℕ) (r : Option ℕ) → IfSome r (λ n. n < 10) → IfSome r (λ n. b ≡ 48 + n) →
    IfSome r (λ n. b ∷ [] ≡ decimal n)
one_read b (Some n) below found = sym (decimal_digit n below ∙ ap (λ (x : ℕ). x ∷ []) (sym found))
one_read b None below found = tt

-- two digits
pub two_read : (a b m n : ℕ) → 0 < m → m < 10 → n < 10 → a ≡ 48 + m → b ≡ 48 + n → a ∷ b ∷ [] ≡ decimal (m * 10 + n)
two_read a b m n some hm hn ea eb =
    rw (ea, eb) (sym (decimal_more m n some (omega arith) hn ∙ ap (λ d. d ++ ((48 + n) ∷ [])) (decimal_digit m hm)))

-- and one more
pub three_read : (a b d m n k : ℕ) → 9 < m → m < 100 → a ∷ b ∷ [] ≡ decimal m → n < 10 → d ≡ 48 + n → k ≡ m * 10 + n →
    a ∷ b ∷ d ∷ [] ≡ decimal k
three_read a b d m n k low high found hn ed ek =
    ap (λ t. t ++ (d ∷ [])) found ∙ ap (λ (x : ℕ). decimal m ++ (x ∷ [])) ed
    ∙ sym (decimal_more m n (omega arith) (omega arith) hn) ∙ ap decimal (sym ek)

-- the address of four octets, and what stands behind it
pub addr_text_before : (text rest tail : List ℕ) (first second third fourth : ℕ) (a : Addr) → first < 256 →
    second < 256 → third < 256 → fourth < 256 → a.0 ≡ first * 16777216 + second * 65536 + third * 256 + fourth →
    text ≡ decimal first ++ (46 ∷ decimal second ++ (46 ∷ decimal third ++ (46 ∷ rest))) →
    rest ≡ decimal fourth ++ tail → text ≡ addr_text a ++ tail
unfolding addr_text
addr_text_before text rest tail first second third fourth a h3 h2 h1 h0 e t r =
    let o3 : first ≡ octet 3 a = omega arith in
    let o2 : second ≡ octet 2 a = omega arith in
    let o1 : third ≡ octet 1 a = omega arith in
    let o0 : fourth ≡ octet 0 a = omega arith in
    rw (t, r, o3, o2, o1, o0) (simp append_assoc)

-- the address of four octets, and nothing behind it
pub addr_text_whole : (text rest : List ℕ) (first second third fourth : ℕ) (a : Addr) → first < 256 → second < 256 →
    third < 256 → fourth < 256 → a.0 ≡ first * 16777216 + second * 65536 + third * 256 + fourth →
    text ≡ decimal first ++ (46 ∷ decimal second ++ (46 ∷ decimal third ++ (46 ∷ rest))) →
    rest ≡ decimal fourth → text ≡ addr_text a
addr_text_whole text rest first second third fourth a h3 h2 h1 h0 e t r =
    addr_text_before text rest [] first second third fourth a h3 h2 h1 h0 e t (r ∙ sym (append-nil (decimal fourth)))
    ∙ append-nil (addr_text a)

-- a prefix, and what stands behind it
pub prefix_text_before : (text rest tail : List ℕ) (a : Addr) (len : ℕ) (p : Prefix) →
    text ≡ addr_text a ++ (47 ∷ rest) → rest ≡ decimal len ++ tail → p ≡ record { addr = a; len = len } →
    text ≡ prefix_text p ++ tail
unfolding prefix_text
prefix_text_before text rest tail a len p t r e =
    t ∙ ap (λ x. addr_text a ++ (47 ∷ x)) r ∙ sym (append_assoc (addr_text a) (47 ∷ decimal len) tail)
    ∙ ap (λ (q : Prefix). (addr_text q.addr ++ (47 ∷ decimal q.len)) ++ tail) (sym e)

-- an address and a space: the first word, and the text after it
pub address_first : (text rest : List ℕ) (a : Addr) → text ≡ addr_text a ++ (32 ∷ rest) →
    tokens text ≡ addr_text a ∷ tokens rest
address_first text rest a e =
    let other : IsAddressByte 32 → ⊥ = λ byte. omega (arith, byte.0.0) in
    word_first text (addr_text a) rest e (addr_text_lacks 32 other a) (addr_text_some a)

-- a prefix and a space
pub prefix_first : (text rest : List ℕ) (p : Prefix) → text ≡ prefix_text p ++ (32 ∷ rest) →
    tokens text ≡ prefix_text p ∷ tokens rest
prefix_first text rest p e =
    let other : IsPrefixByte 32 → ⊥ = λ byte. omega (arith, byte.0) in
    word_first text (prefix_text p) rest e (prefix_text_lacks 32 other p) (prefix_text_some p)

pub prefix_shorter : (text rest : List ℕ) (p : Prefix) → text ≡ prefix_text p ++ (32 ∷ rest) → length rest ≤ length text
prefix_shorter text rest p e = omega (arith, ap length e, length-append (prefix_text p) (32 ∷ rest))

-- what was found, told in other words
pub told_of : {X : Type 0} (r : Option X) (P Q : X → Type 0) → ((x : X) → P x → Q x) → IfSome r P → IfSome r Q
told_of (Some x) P Q so h = so x h
told_of None P Q so h = tt
