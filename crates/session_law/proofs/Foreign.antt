-- A virtual peer has sessions with routers of other ASes alone.
use Rattle.std.proofs.Common.{◌≡◌, inl, inr, ⊎_elim, Bool, true, false, not, ◌&&◌, ◌||◌, option_map, unwrap_or, refl, sym, ap, ◌∙◌}
use Rattle.std.proofs.lemmas.Bool.{true≢false}
use Rattle.net_prefix.specs.declared.addr.Addr.{Addr}
use Rattle.net_conf.specs.declared.edit.Edit.{Edit}
use Rattle.net_conf.specs.Configuration.{Configuration, has_node, is_kind_virtual, is_virtual, is_external, has_session}
use Rattle.net_conf.specs.Edits.{is_inside, has_virtual_inside, edited}
use Rattle.session_law.proofs.Configs.{Passes, ArePair, Joins, node_kept, session_either, session_old_or_new, external_kept, external_either}
use Rattle.session_law.proofs.Edits.{joined_placed}

-- both ends of a session are there
abbrev pub ArePlaced : Configuration → Type 0
ArePlaced c = (a b : Addr) → has_session c a b ≡ true → has_node c a ≡ true

-- a virtual peer's sessions are external
abbrev pub AreForeign : Configuration → Type 0
AreForeign c = (a b : Addr) → has_session c a b ≡ true → is_virtual c a ≡ true → is_external c a b ≡ true

left_outside : (x y e : Bool) → ((x || y) && not e) ≡ false → x ≡ true → e ≡ true
left_outside x y true h is = refl
left_outside true y false h is = absurd (true≢false h)
left_outside false y false h is = absurd (true≢false (sym is))

right_outside : (x y e : Bool) → ((x || y) && not e) ≡ false → y ≡ true → e ≡ true
right_outside x y true h is = refl
right_outside true y false h is = absurd (true≢false h)
right_outside false true false h is = absurd (true≢false h)
right_outside false false false h is = absurd (true≢false (sym is))

pair_foreign : (c : Configuration) (x y a b : Addr) → has_virtual_inside c x y ≡ false → ArePair a b x y →
    is_virtual c a ≡ true → is_external c a b ≡ true
pair_foreign c x y a b outside (inl same) virtual =
    (λ i. is_external c (same.0 i) (same.1 i))
    ∙ left_outside (is_virtual c x) (is_virtual c y) (is_external c x y) outside (ap (is_virtual c) (sym same.0)
    ∙ virtual)
pair_foreign c x y a b outside (inr same) virtual =
    (λ i. is_external c (same.0 i) (same.1 i)) ∙ external_either c y x
    ∙ right_outside (is_virtual c x) (is_virtual c y) (is_external c x y) outside (ap (is_virtual c) (sym same.0)
    ∙ virtual)

joined_foreign : (c : Configuration) (e : Edit) (a b : Addr) → is_inside c e ≡ false → Joins e a b →
    is_virtual c a ≡ true → is_external c a b ≡ true
joined_foreign c e a b outside (x, y, is, pair) virtual = pair_foreign c x y a b (ap (is_inside c) (sym is)
    ∙ outside) pair virtual

-- a pair of one order is one of the other
turned : (e : Edit) (a b : Addr) → Joins e a b → Joins e b a
turned e a b (x, y, is, inl same) = (x, y, is, inr (same.1, same.0))
turned e a b (x, y, is, inr same) = (x, y, is, inl (same.1, same.0))

module _ (c : Configuration) (e : Edit) (ok : Passes c e) (a b : Addr)
    (virtual : is_virtual (edited c e) a ≡ true) where
  foreign_by : has_node c a ≡ true → has_node c b ≡ true → (is_virtual c a ≡ true → is_external c a b ≡ true) →
      is_external (edited c e) a b ≡ true
  foreign_by here there foreign =
      let was : is_virtual (edited c e) a ≡ is_virtual c a =
      ap (λ o. unwrap_or (option_map (λ n. is_kind_virtual n.kind) o) false) (node_kept c e ok a here) in
      external_kept c e ok a b here there ∙ foreign (sym was ∙ virtual)

-- so they stay after an edit
pub foreign_kept : (c : Configuration) (e : Edit) → Passes c e → ArePlaced c → AreForeign c → AreForeign (edited c e)
foreign_kept c e ok placed foreign a b session virtual =
    ⊎_elim
    (λ was. foreign_by c e ok a b virtual (placed a b was) (placed b a (session_either c b a ∙ was)) (foreign a b was))
    (λ joins. foreign_by c e ok a b virtual (joined_placed c e a b ok.nodes joins)
    (joined_placed c e b a ok.nodes (turned e a b joins)) (joined_foreign c e a b ok.outside joins))
    (session_old_or_new c e ok a b session)
