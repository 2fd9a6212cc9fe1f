-- No public contract cites this file. Texts that are written piece by piece.
use Rattle.std.specs.Prelude.{◌≡◌, ℕ, ◌+◌, ◌-◌, ◌<◌, ◌≤◌, true, List, [], ◌∷◌, ◌++◌, length, map, take, drop, Result, Ok, Err}
use Rattle.std.specs.Result.{IsErr}
use Rattle.std.specs.List.{flat_map, join_with_byte}
use Rattle.std.specs.Io.KnownBytes.{Appends}
use Rattle.std.proofs.Common.{refl, sym, ap, ◌∙◌, subst, get_or, append-nil, arith}
use Rattle.std.proofs.lemmas.Bool.{true≢false}
use Rattle.std.proofs.lemmas.List.{drop_more, drop_all, take_rest}
use Rattle.std.specs.Fmt.{decimal}
use Rattle.net_prefix.specs.declared.addr.Addr.{Addr}
use Rattle.net_prefix.specs.Address.{addr_text}
use Rattle.net_prefix.specs.Prefix.{Prefix, prefix_text}
use Rattle.watched.specs.Streams.{Writing, AppendsFront, Writes, held_after}
use Rattle.watched.specs.Writing.{writes_then, writes_none, appends_less}

-- all of it was written
abbrev pub WritesAll : Writing → List ℕ → Writing → Type 0
WritesAll old a new = Appends old.written new.written a × (new.failed ≡ old.failed) × (new.held ≡ held_after old a)

-- a front of it was written, and the writer failed
abbrev pub WritesFront : Writing → List ℕ → Writing → Type 0
WritesFront old a new = AppendsFront old.written new.written a × (new.failed ≡ true)

module _ {E : Type 0} where
  -- the same text, spelled in another way
  pub writes_same : (old new : Writing) (a b : List ℕ) (r : Result Unit E) → b ≡ a →
      Writes old a r new → Writes old b r new
  writes_same old new a b r e h = subst (λ t. Writes old t r new) (sym e) h

  -- a was not written in full, so nothing of b was
  pub writes_cut : (old new : Writing) (a b : List ℕ) (r : Result Unit E) → IsErr r → WritesFront old a new →
      Writes old (a ++ b) r new
  writes_cut old new a b (Ok u) is h = absurd (true≢false (sym is))
  writes_cut old new a b (Err e) is h = (appends_less old.written new.written a b h.0, h.1)

  -- a was written, and then b
  pub writes_next : (old mid new : Writing) (a b : List ℕ) (r : Result Unit E) → WritesAll old a mid →
      Writes mid b r new → Writes old (a ++ b) r new
  writes_next old mid new a b r h g = writes_then old mid new a b tt r h g

-- whatever is written of the text that is left is written of the whole text
abbrev pub Continues : Type 0 → Writing → List ℕ → Writing → List ℕ → Type 0
Continues E old whole mid left = (result : Result Unit E) (new : Writing) → Writes mid left result new →
    Writes old whole result new

left_at : {X : Type 0} (f : X → List ℕ) (items : List X) (i : ℕ) (x : X) → i < length items → x ≡ get_or items i x →
    flat_map f (drop i items) ≡ f x ++ flat_map f (drop (i + 1) items)
left_at f items i x lt is = ap (flat_map f) (drop_more items i x lt)
    ∙ ap (λ y. f y ++ flat_map f (drop (i + 1) items)) (sym is)

module _ {E X : Type 0} (f : X → List ℕ) where
  -- an item was written
  pub each_next : (old mid new : Writing) (whole : List ℕ) (items : List X) (i : ℕ) (x : X) → i < length items →
      x ≡ get_or items i x → Continues E old whole mid (flat_map f (drop i items)) → WritesAll mid (f x) new →
      Continues E old whole new (flat_map f (drop (i + 1) items))
  each_next old mid new whole items i x lt is more h result end g =
      more result end (writes_same mid end _ _ result (left_at f items i x lt is)
      (writes_next mid new end (f x) _ result h g))

  -- an item was not written in full
  pub each_cut : (old mid new : Writing) (whole : List ℕ) (items : List X) (i : ℕ) (x : X) (r : Result Unit E) →
      i < length items → x ≡ get_or items i x → Continues E old whole mid (flat_map f (drop i items)) → IsErr r →
      WritesFront mid (f x) new → Writes old whole r new
  each_cut old mid new whole items i x r lt is more err h =
      more r new (writes_same mid new _ _ r (left_at f items i x lt is) (writes_cut mid new (f x) _ r err h))

  -- no item is left
  pub each_end : (old mid : Writing) (whole : List ℕ) (items : List X) (i : ℕ) → length items ≤ i →
      Continues E old whole mid (flat_map f (drop i items)) → WritesAll old whole mid
  each_end old mid whole items i le more =
      let none : List ℕ = flat_map f (drop i items) in
      let e : none ≡ [] = ap (flat_map f) (drop_all i items le) in
      more (Ok tt) mid (writes_same {E = E} mid mid [] none (Ok tt) e (writes_none {E = E} mid (Ok tt) tt refl))

-- the first item, and then each after a separator
joined_each : {X : Type 0} (c : ℕ) (f : X → List ℕ) (x : X) (xs : List X) →
    join_with_byte c (map f (x ∷ xs)) ≡ f x ++ flat_map (λ y. c ∷ f y) xs
joined_each c f x [] = sym (append-nil (f x))
joined_each c f x (y ∷ ys) = ap (λ t. f x ++ (c ∷ t)) (joined_each c f y ys)

pub joined_more : {X : Type 0} (c : ℕ) (f : X → List ℕ) (items : List X) (x : X) → 0 < length items →
    x ≡ get_or items 0 x → join_with_byte c (map f items) ≡ f x
    ++ flat_map (λ y. c ∷ f y) (take (length items - 1) (drop 1 items))
joined_more c f [] x some is = absurd (omega arith)
joined_more c f (y ∷ ys) x some is =
    ap (λ z. join_with_byte c (map f (z ∷ ys))) (sym is) ∙ joined_each c f x ys
    ∙ ap (λ zs. f x ++ flat_map (λ z. c ∷ f z) zs) (sym (take_rest (y ∷ ys) 1))

-- a block by the values that a program reads of it
pub prefix_pieces : (p : Prefix) (a : Addr) (len : ℕ) → a ≡ p.addr → len ≡ p.len →
    prefix_text p ≡ addr_text a ++ (47 ∷ decimal len)
unfolding prefix_text
prefix_pieces p a len ea el = λ i. addr_text (sym ea i) ++ (47 ∷ decimal (sym el i))
