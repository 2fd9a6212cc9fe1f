-- What is sent leads from what was advertised to what is advertised now.
use Rattle.std.proofs.Common.{◌≡◌, Bool, true, false, List, [], ◌∷◌, ◌++◌, Option, Some, None, if◌then◌else◌, refl, sym, ap, ◌∙◌, subst}
use Rattle.std.specs.List.{list_any, filter_map, cons_option}
use Rattle.std.proofs.lemmas.Bool.{true≢false, false_from_ne_true}
use Rattle.net_prefix.specs.declared.addr.Addr.{Addr}
use Rattle.net_prefix.specs.Prefix.{Prefix, same_prefix, prefix_cmp}
use Rattle.path_attr.specs.declared.attr.Attr.{Attr}
use Rattle.path_attr.specs.Attribute.{same_attr}
use Rattle.path_attr.specs.Sameness.{attrs_exact}
use Rattle.session_queue.specs.declared.message.Message.{Message}
use Rattle.session_queue.specs.declared.message.Message.TheVariants.{Update}
use Rattle.net_conf.specs.Costs.{is_up}
use Rattle.net_conf.specs.Sites.{site_of}
use Rattle.reference_machine.specs.Network.{Network}
use Rattle.reference_machine.specs.Decision.{best}
use Rattle.reference_machine.specs.Advertising.{advertised, change_of, prefixes_at, in_order, changes, advert_of}
use Rattle.reference_machine.proofs.Known.{best_none}
use Rattle.session_law.specs.SessionLaw.{after_message, after_messages}
use Rattle.session_law.proofs.Lists.{any_gathered, none_of_both}
use Rattle.session_law.proofs.Keys.{same_prefix_true, same_prefix_itself, prefix_exact}

-- ONE MESSAGE

-- what is held for the prefix once the message, if any, has been taken
abbrev after_change : Prefix → Option Attr → Option Message → Option Attr
after_change p held None = held
after_change p held (Some m) = after_message p held m

by_sameness : (b : Bool) (p : Prefix) (old new : Attr) → same_attr old new ≡ b →
    after_change p (Some old) (if b then None else Some (Update p new)) ≡ Some new
by_sameness true p old new is = ap Some ((attrs_exact old new).0 is)
by_sameness false p old new is = rw (same_prefix_itself p) refl

-- the change leads from what was advertised to what is advertised
change_leads : (p : Prefix) (old new : Option Attr) → after_change p old (change_of p old new) ≡ new
change_leads p None None = refl
change_leads p (Some old) None = rw (same_prefix_itself p) refl
change_leads p None (Some new) = rw (same_prefix_itself p) refl
change_leads p (Some old) (Some new) = by_sameness (same_attr old new) p old new refl

settled_by : (b : Bool) (p : Prefix) (new : Attr) →
    after_change p (Some new) (if b then None else Some (Update p new)) ≡ Some new
settled_by true p new = refl
settled_by false p new = rw (same_prefix_itself p) refl

-- what is held already is kept
change_settles : (p : Prefix) (old new : Option Attr) → after_change p new (change_of p old new) ≡ new
change_settles p None None = refl
change_settles p (Some old) None = rw (same_prefix_itself p) refl
change_settles p None (Some new) = rw (same_prefix_itself p) refl
change_settles p (Some old) (Some new) = settled_by (same_attr old new) p new

passed_by : (b : Bool) (p q : Prefix) (held : Option Attr) (new : Attr) → same_prefix p q ≡ false →
    after_change p held (if b then None else Some (Update q new)) ≡ held
passed_by true p q held new other = refl
passed_by false p q held new other = rw other refl

-- a change at another prefix is nothing to this one
change_passes : (p q : Prefix) (held old new : Option Attr) → same_prefix p q ≡ false →
    after_change p held (change_of q old new) ≡ held
change_passes p q held None None other = refl
change_passes p q held (Some old) None other = rw other refl
change_passes p q held None (Some new) other = rw other refl
change_passes p q held (Some old) (Some new) other = passed_by (same_attr old new) p q held new other

-- ALL MESSAGES

after_cons : (p : Prefix) (held : Option Attr) (o : Option Message) (ms : List Message) →
    after_messages p held (cons_option o ms) ≡ after_messages p (after_change p held o) ms
after_cons p held None ms = refl
after_cons p held (Some m) ms = refl

module _ (old new : Prefix → Option Attr) where
  abbrev turned : List Prefix → List Message
  turned qs = filter_map (λ q. change_of q (old q) (new q)) qs

  settled_at : (b : Bool) (p q : Prefix) → same_prefix p q ≡ b →
      after_change p (new p) (change_of q (old q) (new q)) ≡ new p
  settled_at true p q is = subst (λ x. after_change p (new p) (change_of x (old x) (new x)) ≡ new p)
      (same_prefix_true p q is) (change_settles p (old p) (new p))
  settled_at false p q is = change_passes p q (new p) (old q) (new q) is

  -- who holds what is advertised now goes on holding it
  settles : (p : Prefix) (qs : List Prefix) → after_messages p (new p) (turned qs) ≡ new p
  settles p [] = refl
  settles p (q ∷ qs) =
      after_cons p (new p) (change_of q (old q) (new q)) (turned qs)
      ∙ ap (λ held. after_messages p held (turned qs)) (settled_at (same_prefix p q) p q refl)
      ∙ settles p qs

  leads_step : (b : Bool) (p q : Prefix) (qs : List Prefix) → same_prefix p q ≡ b →
      (list_any (same_prefix p) qs ≡ true → after_messages p (old p) (turned qs) ≡ new p) →
      (b ≡ false → list_any (same_prefix p) qs ≡ true) →
      after_messages p (after_change p (old p) (change_of q (old q) (new q))) (turned qs) ≡ new p
  leads_step true p q qs is later among =
      ap (λ held. after_messages p held (turned qs))
      (subst (λ x. after_change p (old p) (change_of x (old x) (new x)) ≡ new p) (same_prefix_true p q is)
      (change_leads p (old p) (new p)))
      ∙ settles p qs
  leads_step false p q qs is later among =
      ap (λ held. after_messages p held (turned qs)) (change_passes p q (old p) (old q) (new q) is)
      ∙ later (among refl)

  -- who held what was advertised holds what is advertised now
  leads : (p : Prefix) (qs : List Prefix) → list_any (same_prefix p) qs ≡ true →
      after_messages p (old p) (turned qs) ≡ new p
  leads p [] h = absurd (true≢false (sym h))
  leads p (q ∷ qs) h =
      after_cons p (old p) (change_of q (old q) (new q)) (turned qs)
      ∙ leads_step (same_prefix p q) p q qs refl (leads p qs) (λ e. rw e at h)

  -- and so where it stays at prefixes that are not gone through
  arrives_by : (b : Bool) (p : Prefix) (qs : List Prefix) → list_any (same_prefix p) qs ≡ b →
      (b ≡ false → old p ≡ new p) → after_messages p (old p) (turned qs) ≡ new p
  arrives_by true p qs is same = leads p qs is
  arrives_by false p qs is same = ap (λ held. after_messages p held (turned qs)) (same refl) ∙ settles p qs

-- NOTHING IS ADVERTISED WHERE NOTHING IS KNOWN

none_if : {A : Type 0} (b : Bool) → ◌≡◌ {A = Option A} (if b then None else None) None
none_if true = refl
none_if false = refl

-- and nothing is advertised
advertised_none : (s : Network) (r t : Addr) (p : Prefix) → list_any (same_prefix p) (prefixes_at s r) ≡ false →
    advertised s r t p ≡ None
unfolding advertised
advertised_none s r t p none =
    ap (advert_of (is_up s.conf r t) (site_of s.conf r) t p) (best_none s r p none) ∙ none_if (is_up s.conf r t)

-- nothing is advertised over a session that is down
pub advertised_down : (s : Network) (r t : Addr) (p : Prefix) → is_up s.conf r t ≡ false → advertised s r t p ≡ None
unfolding advertised
advertised_down s r t p down = ap (λ up. advert_of up (site_of s.conf r) t p (best s r p)) down

not_among : (p : Prefix) (ps : List Prefix) → list_any (same_prefix p) (in_order ps) ≡ false →
    list_any (same_prefix p) ps ≡ false
not_among p ps none = false_from_ne_true (list_any (same_prefix p) ps)
    (λ h. true≢false (sym (any_gathered prefix_cmp (same_prefix p) prefix_exact ps [] h) ∙ none))

same_where_unknown : (s s' : Network) (r t : Addr) (p : Prefix) →
    list_any (same_prefix p) (in_order (prefixes_at s r ++ prefixes_at s' r)) ≡ false →
    advertised s r t p ≡ advertised s' r t p
same_where_unknown s s' r t p none =
    let parts = none_of_both (same_prefix p) (prefixes_at s r) (prefixes_at s' r)
    (not_among p (prefixes_at s r ++ prefixes_at s' r) none) in
    advertised_none s r t p parts.0 ∙ sym (advertised_none s' r t p parts.1)

-- what is sent leads from what was advertised to what is advertised now
pub changes_lead : (s s' : Network) (r t : Addr) (p : Prefix) → after_messages p (advertised s r t p) (changes s s' r t)
    ≡ advertised s' r t p
unfolding changes
changes_lead s s' r t p =
    arrives_by (advertised s r t) (advertised s' r t)
    (list_any (same_prefix p) (in_order (prefixes_at s r ++ prefixes_at s' r))) p
    (in_order (prefixes_at s r ++ prefixes_at s' r)) refl (same_where_unknown s s' r t p)
