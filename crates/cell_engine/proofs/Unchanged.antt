-- Where site and choice stay, nothing is sent.
use Rattle.std.proofs.Common.{◌≡◌, Bool, true, false, cond, List, [], ◌∷◌, map, filter, Option, Some, None, ◌==◌, refl, ap, ◌∙◌}
use Rattle.std.specs.List.{AllByRecursion, filter_map, cons_option}
use Rattle.std.specs.List.Sorted.{IsStrictlySortedBy}
use Rattle.std.specs.Option.{option_map_or}
use Rattle.std.specs.declared.cmp.Ordering.TheVariants.{Less}
use Rattle.std.specs.Ordering.{is_eq, ordering_reverse}
use Rattle.std.specs.Cmp.{unsigned_Decides}
use Rattle.net_prefix.specs.declared.addr.Addr.{Addr}
use Rattle.net_prefix.specs.Address.{addr_cmp}
use Rattle.net_prefix.specs.Orders.{addr_total}
use Rattle.net_prefix.specs.Prefix.{Prefix}
use Rattle.path_attr.specs.declared.attr.Attr.{Attr}
use Rattle.path_attr.specs.Sameness.{attrs_exact}
use Rattle.net_conf.specs.declared.site.SiteConf.{SiteConf}
use Rattle.net_conf.specs.declared.site.SiteSession.{SiteSession}
use Rattle.net_conf.specs.Sites.{session_with}
use Rattle.route_select.specs.declared.candidate.Candidate.{Candidate}
use Rattle.session_queue.specs.declared.message.Message.TheVariants.{Update}
use Rattle.reference_machine.specs.Advertising.{advert_of, change_of}
use Rattle.cell_engine.specs.Cells.{send_to, send_over, sends_of}
use Rattle.cell_engine.specs.Updates.{send_if_up}
use Rattle.cell_engine.proofs.StandingsAfter.{ArePeersInOrder, session_in, tied}

-- OVER SESSIONS THAT ARE UP

picked_by : {X Y : Type 0} (h : X → Option Y) (p : X → Bool) (b : Bool) (x : X) (xs : List X) (picked : List Y) →
    filter_map h (filter p xs) ≡ picked → filter_map h (cond b (x ∷ filter p xs) (filter p xs))
    ≡ cons_option (cond b (h x) None) picked
picked_by h p true x xs picked rest = ap (cons_option (h x)) rest
picked_by h p false x xs picked rest = rest

-- what is given where a test holds is what is given of those that pass it
pub picked : {X Y : Type 0} (h : X → Option Y) (p : X → Bool) (xs : List X) →
    filter_map h (filter p xs) ≡ filter_map (λ x. cond (p x) (h x) None) xs
picked h p [] = refl
picked h p (x ∷ xs) = picked_by h p (p x) x xs (filter_map (λ y. cond (p y) (h y) None) xs) (picked h p xs)

-- EACH SESSION IS FOUND BY ITS PEER

apart : (a b : Addr) → addr_cmp a b ≡ Less → (a.0 == b.0) ≡ false
apart a b less = tied a b ∙ ap is_eq (addr_total.antisymm b a ∙ ap ordering_reverse less)

found_later : (x : SiteSession) (whole ys : List SiteSession) →
    AllByRecursion (λ a. addr_cmp x.peer a ≡ Less) (map (λ y. y.peer) ys) →
    AllByRecursion (λ y. session_in whole y.peer ≡ Some y) ys →
    AllByRecursion (λ y. session_in (x ∷ whole) y.peer ≡ Some y) ys
found_later x whole [] later all = tt
found_later x whole (y ∷ ys) later all = (
  ap (λ b. cond b (Some x) (session_in whole y.peer)) (apart x.peer y.peer later.0) ∙ all.0,
  found_later x whole ys later.1 all.1,
)

pub each_found : (xs : List SiteSession) → ArePeersInOrder xs → AllByRecursion (λ x. session_in xs x.peer ≡ Some x) xs
unfolding IsStrictlySortedBy
each_found [] h = tt
each_found (x ∷ xs) h =
    let here = ap (λ b. cond b (Some x) (session_in xs x.peer)) ((unsigned_Decides x.peer.0 x.peer.0).1 refl) in
    (here, found_later x xs xs h.0 (each_found xs h.1))

-- NOTHING IS SENT

-- an advert that stays takes no message
no_change : (p : Prefix) (a : Option Attr) → change_of p a a ≡ None
no_change p None = refl
no_change p (Some attr) = ap (λ b. cond b None (Some (Update p attr))) ((attrs_exact attr attr).1 refl)

module _ (site : SiteConf) (p : Prefix) (b : Option Candidate) where
  silent_by : (up : Bool) (u : Addr) →
      cond up (send_to u (change_of p (advert_of up (Some site) u p b) (advert_of up (Some site) u p b))) None ≡ None
  silent_by up u = ap (λ m. cond up (send_to u m) None) (no_change p (advert_of up (Some site) u p b))
      ∙ (elim up as (λ c. cond c (send_to u None) None ≡ None) [ true ↦ refl | false ↦ refl ])

  silent : (x : SiteSession) → session_with site x.peer ≡ Some x → send_if_up site site p b b x ≡ None
  silent x found =
      ap (λ o. cond x.up (send_to x.peer
      (change_of p (advert_of (option_map_or (λ y. y.up) o false) (Some site) x.peer p b)
      (advert_of x.up (Some site) x.peer p b))) None) found
      ∙ silent_by x.up x.peer

  all_silent : (xs : List SiteSession) → AllByRecursion (λ x. session_with site x.peer ≡ Some x) xs →
      filter_map (send_if_up site site p b b) xs ≡ []
  all_silent [] all = refl
  all_silent (x ∷ xs) all = ap (λ o. cons_option o (filter_map (send_if_up site site p b b) xs)) (silent x all.0)
      ∙ all_silent xs all.1

  -- where neither site nor choice changes, nothing is sent
  pub nothing_sent : ArePeersInOrder site.sessions → sends_of site site p b b ≡ []
  nothing_sent h = picked (send_over site site p b b) (λ x. x.up) site.sessions
      ∙ all_silent site.sessions (each_found site.sessions h)
