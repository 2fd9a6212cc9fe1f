-- What a router sends when one network becomes another: it may be read off any prefixes in order that leave out none
-- whose advert changes.
use Rattle.std.proofs.Common.{◌≡◌, Bool, true, false, ◌&&◌, ◌||◌, List, [], ◌∷◌, ◌++◌, Option, Some, None, option_map, option_and_then, if◌then◌else◌, refl, ap, ◌∙◌}
use Rattle.std.specs.Option.{option_to_list}
use Rattle.std.specs.List.{list_any, filter_map, cons_option}
use Rattle.std.specs.List.Sorted.{IsStrictlySortedBy}
use Rattle.std.specs.Ordering.{is_eq, eq_by_cmp}
use Rattle.std.specs.Cmp.{both_tied, unsigned_ties, unsigned_Decides}
use Rattle.net_prefix.specs.declared.addr.Addr.{Addr}
use Rattle.net_prefix.specs.Address.{same_addr}
use Rattle.net_prefix.specs.Prefix.{Prefix, same_prefix, prefix_cmp}
use Rattle.net_prefix.specs.Orders.{prefix_total, prefix_exact}
use Rattle.path_attr.specs.declared.attr.Attr.{Attr}
use Rattle.path_attr.specs.Sameness.{attrs_exact}
use Rattle.session_queue.specs.declared.message.Message.{Message}
use Rattle.session_queue.specs.declared.message.Message.TheVariants.{Update}
use Rattle.net_conf.specs.Configuration.{node_at}
use Rattle.net_conf.specs.Costs.{is_up}
use Rattle.net_conf.specs.Sites.{sessions_of, site_at, site_of}
use Rattle.net_conf.specs.declared.tables.Node.{Node}
use Rattle.route_select.specs.Selection.{no_standings, best_of}
use Rattle.reference_machine.specs.Network.{Network}
use Rattle.reference_machine.specs.Decision.{route_from, own_standings, standing_over, added, standings, best}
use Rattle.reference_machine.specs.Advertising.{advert_of, advertised, change_of, prefixes_at, in_order, sends, changes, sent}
use Rattle.reference_machine.proofs.Known.{best_none}
use Rattle.cell_engine.proofs.Picks.{LeavesNoneOut, same_picks, sorted_gathered, not_gathered}

-- SAMENESS

pub same_addr_true : (a b : Addr) → same_addr a b ≡ true → a ≡ b
same_addr_true a b h = ap (λ n. record { 0 = n }) ((unsigned_Decides a.0 b.0).0 h)

pub same_addr_itself : (a : Addr) → same_addr a a ≡ true
same_addr_itself a = (unsigned_Decides a.0 a.0).1 refl

pub prefix_tied : (p q : Prefix) → same_prefix p q ≡ is_eq (prefix_cmp p q)
prefix_tied p q = both_tied _ _ _ _ (unsigned_ties p.addr.0 q.addr.0) (unsigned_ties p.len q.len)

-- an advert that stays sends nothing
pub change_none : (p : Prefix) (a : Option Attr) → change_of p a a ≡ None
change_none p None = refl
change_none p (Some a) = ap (λ b. if b then None else Some (Update p a)) ((attrs_exact a a).1 refl)

-- NOTHING IS ADVERTISED WHERE NOTHING IS KNOWN

pub none_if : {A : Type 0} (b : Bool) → ◌≡◌ {A = Option A} (if b then None else None) None
none_if true = refl
none_if false = refl

unknown : (p : Prefix) (ps : List Prefix) → list_any (eq_by_cmp prefix_cmp p) ps ≡ false →
    list_any (same_prefix p) ps ≡ false
unknown p ps h = (λ i. list_any (λ q. prefix_tied p q i) ps) ∙ h

advertised_none : (s : Network) (r t : Addr) (p : Prefix) → list_any (eq_by_cmp prefix_cmp p) (prefixes_at s r)
    ≡ false → advertised s r t p ≡ None
unfolding advertised
advertised_none s r t p h =
    ap (advert_of (is_up s.conf r t) (site_of s.conf r) t p) (best_none s r p (unknown p (prefixes_at s r) h))
    ∙ none_if (is_up s.conf r t)

-- WHAT IS SENT, OFF ANY PREFIXES

module _ (s s' : Network) (r t : Addr) where
  -- the message for a prefix
  abbrev pub turn : Prefix → Option Message
  turn p = change_of p (advertised s r t p) (advertised s' r t p)

  all_known : LeavesNoneOut prefix_total prefix_exact turn (in_order (prefixes_at s r ++ prefixes_at s' r))
  all_known q off =
      let parts = not_gathered prefix_total prefix_exact q (prefixes_at s r) (prefixes_at s' r) off in
      λ i. change_of q (advertised_none s r t q parts.0 i) (advertised_none s' r t q parts.1 i)

  -- prefixes in order, of which none is left out whose advert changes, give what is sent
  pub changes_from : (ps : List Prefix) → IsStrictlySortedBy prefix_cmp ps →
      LeavesNoneOut prefix_total prefix_exact turn ps → changes s s' r t ≡ filter_map turn ps
  unfolding changes
  changes_from ps sorted all =
      same_picks prefix_total prefix_exact turn (in_order (prefixes_at s r ++ prefixes_at s' r)) ps
      (sorted_gathered prefix_total prefix_exact (prefixes_at s r ++ prefixes_at s' r)) sorted all_known all

-- WHERE THE CONFIGURATION STAYS

-- a choice depends on the configuration and on the routes received for it
pub best_stays : (s s' : Network) → s'.conf ≡ s.conf → (r : Addr) (p : Prefix) →
    ((u : Addr) → route_from s'.received r p u ≡ route_from s.received r p u) → best s' r p ≡ best s r p
unfolding best site_of
best_stays s s' conf r p same =
    (λ i. option_and_then (λ site. best_of (standings site p s'.received)) (site_of (conf i) r))
    ∙ at_node (node_at s.conf r) where
      at_node : (n : Option Node) →
          option_and_then (λ site. best_of (standings site p s'.received)) (option_map (site_at s.conf r) n)
          ≡ option_and_then (λ site. best_of (standings site p s.received)) (option_map (site_at s.conf r) n)
      at_node None = refl
      at_node (Some n) = λ i. best_of
          (added (no_standings (site_at s.conf r n).med_always) (own_standings (site_at s.conf r n) p
          ++ filter_map (λ x. standing_over (site_at s.conf r n) p x (same x.peer i)) (sessions_of s.conf r)))

head_only : (b c : Bool) → b ≡ c → (c || false) ≡ false → b ≡ false
head_only b true is h = is ∙ h
head_only b false is h = is

one_of : {A : Type 0} (o : Option A) → cons_option o [] ≡ option_to_list o
one_of None = refl
one_of (Some x) = refl

pub nothing_if : {A : Type 0} (b : Bool) → ◌≡◌ {A = List A} (if b then [] else []) []
nothing_if true = refl
nothing_if false = refl

if_both : {A : Type 0} (b c : Bool) (l : List A) →
    (if c then (if b then l else []) else []) ≡ (if b && c then l else [])
if_both true c l = refl
if_both false c l = nothing_if c

module _ (s s' : Network) (conf : s'.conf ≡ s.conf) where
  -- where the router's choice stays, so does what it advertises
  turn_none : (f t : Addr) (q : Prefix) → best s' f q ≡ best s f q → turn s s' f t q ≡ None
  unfolding advertised
  turn_none f t q stays =
      ap (change_of q (advertised s f t q)) (λ i. advert_of (is_up (conf i) f t) (site_of (conf i) f) t q (stays i))
      ∙ change_none q (advertised s f t q)

  changes_none : (f t : Addr) → ((q : Prefix) → best s' f q ≡ best s f q) → changes s s' f t ≡ []
  unfolding IsStrictlySortedBy
  changes_none f t stays = changes_from s s' f t [] tt (λ q off. turn_none f t q (stays q))

  -- where each choice stays, nothing is sent
  pub sent_none : ((f : Addr) (q : Prefix) → best s' f q ≡ best s f q) → (f t : Addr) → sent s s' f t ≡ []
  unfolding sent
  sent_none stays f t = ap (λ l. if sends s'.conf f t then l else []) (changes_none f t (stays f))
      ∙ nothing_if (sends s'.conf f t)

  -- where each choice stays but one
  module _ (r : Addr) (p : Prefix) (stays : (f : Addr) (q : Prefix) → (same_addr f r && same_prefix q p) ≡ false →
      best s' f q ≡ best s f q) where
    changes_by : (f t : Addr) (here : Bool) → same_addr f r ≡ here →
        changes s s' f t ≡ (if here then option_to_list (turn s s' r t p) else [])
    unfolding IsStrictlySortedBy
    changes_by f t true is =
        changes_from s s' f t (p ∷ []) (
          tt,
          tt,
        ) (λ q off. turn_none f t q (stays f q (ap (λ b. b && same_prefix q p) is
        ∙ head_only (same_prefix q p) (eq_by_cmp prefix_cmp q p) (prefix_tied q p) off)))
        ∙ one_of (turn s s' f t p)
        ∙ ap (λ x. option_to_list (turn s s' x t p)) (same_addr_true f r is)
    changes_by f t false is = changes_none f t (λ q. stays f q (ap (λ b. b && same_prefix q p) is))

    -- its router alone sends, for its prefix alone
    pub sent_by_one : (f t : Addr) →
        sent s s' f t ≡ (if same_addr f r && sends s.conf f t
        then option_to_list (change_of p (advertised s r t p) (advertised s' r t p)) else [])
    unfolding sent
    sent_by_one f t =
        (λ i. if sends (conf i) f t then changes_by f t (same_addr f r) refl i else [])
        ∙ if_both (same_addr f r) (sends s.conf f t) (option_to_list (turn s s' r t p))
