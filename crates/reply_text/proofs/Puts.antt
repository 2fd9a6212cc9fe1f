-- Texts that were put into a buffer from its end to its front: what each put stands before what was put before it.
use Rattle.std.proofs.Common.{◌≡◌, ℕ, List, [], ◌∷◌, ◌++◌, sym, ap, ◌∙◌, append_assoc, append-nil}
use Rattle.std.specs.Fmt.{decimal}
use Rattle.net_prefix.specs.declared.addr.Addr.{Addr}
use Rattle.net_prefix.specs.Address.{octet, addr_text}
use Rattle.net_prefix.specs.Prefix.{Prefix, prefix_text}
use Rattle.reply_text.specs.Pieces.{prefix_pieces}

-- an address, by its octets
pub address_put : (a : Addr) (t4 t3 t2 t1 t0 : List ℕ) (first second third fourth : ℕ) → first ≡ octet 3 a →
    second ≡ octet 2 a → third ≡ octet 1 a → fourth ≡ octet 0 a →
    t4 ≡ decimal first ++ t3 → t3 ≡ (46 ∷ decimal second) ++ t2 → t2 ≡ (46 ∷ decimal third) ++ t1 →
    t1 ≡ (46 ∷ decimal fourth) ++ t0 → t4 ≡ addr_text a ++ t0
unfolding addr_text
address_put a t4 t3 t2 t1 t0 first second third fourth e3 e2 e1 e0 p4 p3 p2 p1 = rw (
  p4,
  p3,
  p2,
  p1,
  e3,
  e2,
  e1,
  e0,
) (simp append_assoc)

-- a prefix
pub prefix_put : (p : Prefix) (a : Addr) (len : ℕ) (t2 t1 t0 : List ℕ) → a ≡ p.addr → len ≡ p.len →
    t2 ≡ addr_text a ++ t1 → t1 ≡ (47 ∷ decimal len) ++ t0 → t2 ≡ prefix_text p ++ t0
prefix_put p a len t2 t1 t0 ea el p2 p1 =
    p2 ∙ ap (λ t. addr_text a ++ t) p1 ∙ sym (append_assoc (addr_text a) (47 ∷ decimal len) t0)
    ∙ ap (λ t. t ++ t0) (sym (prefix_pieces p a len ea el))

-- the line of a message that was taken
pub took_put : (front prefix end t3 t2 t1 t0 : List ℕ) (kind line_end : List ℕ) → t3 ≡ front ++ t2 → t2 ≡ prefix ++ t1 →
    t1 ≡ end ++ t0 → end ≡ 32 ∷ (kind ++ line_end) → t0 ≡ [] → t3 ≡ front ++ prefix ++ (32 ∷ []) ++ kind ++ line_end
took_put front prefix end t3 t2 t1 t0 kind line_end p3 p2 p1 k none =
    let last : t1 ≡ end = p1 ∙ ap (λ t. end ++ t) none ∙ append-nil end in
    rw (p3, p2, last, k) (simp append_assoc)
