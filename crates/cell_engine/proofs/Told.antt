-- What each peer is told: one message at most for a cell, and that is what the machine sends.
use Rattle.std.proofs.Common.{◌≡◌, Bool, true, false, cond, not, ◌&&◌, ◌==◌, List, [], ◌∷◌, map, filter, find, Option, Some, None, option_map, is_some, if◌then◌else◌, refl, sym, ap, subst, ◌∙◌}
use Rattle.std.specs.Option.{option_to_list, option_map_or}
use Rattle.std.specs.List.{AllByRecursion, filter_map, cons_option}
use Rattle.std.specs.List.Sorted.{IsStrictlySortedBy}
use Rattle.std.specs.declared.cmp.Ordering.TheVariants.{Less}
use Rattle.std.specs.Ordering.{is_eq}
use Rattle.std.specs.Cmp.{nat_eq_equiv, unsigned_ties}
use Rattle.net_prefix.specs.declared.addr.Addr.{Addr}
use Rattle.net_prefix.specs.Address.{same_addr, addr_cmp}
use Rattle.net_prefix.specs.Prefix.{Prefix, same_prefix}
use Rattle.session_queue.specs.declared.message.Message.{Message}
use Rattle.net_conf.specs.Configuration.{Configuration, node_at, has_node, is_virtual}
use Rattle.net_conf.specs.Costs.{is_up}
use Rattle.net_conf.specs.Sites.{site_of}
use Rattle.net_conf.specs.declared.site.SiteConf.{SiteConf}
use Rattle.net_conf.specs.declared.site.SiteSession.{SiteSession}
use Rattle.route_select.specs.declared.candidate.Candidate.{Candidate}
use Rattle.reference_machine.specs.Network.{Network}
use Rattle.reference_machine.specs.Decision.{best}
use Rattle.reference_machine.specs.Advertising.{advert_of, advertised, change_of, sends, sent}
use Rattle.cell_engine.specs.Cells.{is_up_in, send_to, sends_of}
use Rattle.cell_engine.specs.Sending.{told, told_from}
use Rattle.cell_engine.proofs.Offers.{same_addr_true, same_addr_itself, nothing_if, sent_by_one}

-- ONE MESSAGE

map_cond : (b : Bool) (e : Addr × Message) (es : List (Addr × Message)) →
    map (λ e. e.1) (cond b (e ∷ es) es) ≡ cond b (e.1 ∷ map (λ e. e.1) es) (map (λ e. e.1) es)
map_cond true e es = refl
map_cond false e es = refl

-- what a peer is told by one message more
pub told_step : (t : Addr) (e : Addr × Message) (rest : List (Addr × Message)) →
    told t (e ∷ rest) ≡ cond (same_addr t e.0) (e.1 ∷ told t rest) (told t rest)
told_step t e rest = map_cond (same_addr t e.0) e (filter (λ e. same_addr t e.0) rest)

-- ONE MESSAGE A SESSION, where the session is up

module _ (change : Addr → Bool → Option Message) (t : Addr) where
  abbrev over : SiteSession → Option (Addr × Message)
  over x = send_to x.peer (change x.peer x.up)

  abbrev all_over : List SiteSession → List (Addr × Message)
  all_over xs = filter_map over (filter (λ x. x.up) xs)

  told_other : (u : Addr) (rest : List (Addr × Message)) (o : Option Message) → same_addr t u ≡ false →
      told t (cons_option (send_to u o) rest) ≡ told t rest
  told_other u rest None off = refl
  told_other u rest (Some m) off = told_step t (u, m) rest ∙ ap (λ b. cond b (m ∷ told t rest) (told t rest)) off

  passed_by : (x : SiteSession) (xs : List SiteSession) (up : Bool) → same_addr t x.peer ≡ false →
      told t (filter_map over (cond up (x ∷ filter (λ x. x.up) xs) (filter (λ x. x.up) xs))) ≡ told t (all_over xs)
  passed_by x xs true off = told_other x.peer (all_over xs) (change x.peer x.up) off
  passed_by x xs false off = refl

  -- a session with another peer
  passed : (x : SiteSession) (xs : List SiteSession) → same_addr t x.peer ≡ false →
      told t (all_over (x ∷ xs)) ≡ told t (all_over xs)
  passed x xs off = passed_by x xs x.up off

  none_told : (xs : List SiteSession) → AllByRecursion (λ u. addr_cmp t u ≡ Less) (map (λ x. x.peer) xs) →
      told t (all_over xs) ≡ []
  none_told [] past = refl
  none_told (x ∷ xs) past = passed x xs (unsigned_ties t.0 x.peer.0 ∙ ap is_eq past.0) ∙ none_told xs past.1

  told_itself : (rest : List (Addr × Message)) (o : Option Message) → told t rest ≡ [] →
      told t (cons_option (send_to t o) rest) ≡ option_to_list o
  told_itself rest None none = none
  told_itself rest (Some m) none = told_step t (t, m) rest
      ∙ ap (λ b. cond b (m ∷ told t rest) (told t rest)) (same_addr_itself t) ∙ ap (λ l. m ∷ l) none

  here_by : (x : SiteSession) (xs : List SiteSession) (up : Bool) → x.up ≡ up → x.peer ≡ t → told t (all_over xs) ≡ [] →
      told t (all_over (x ∷ xs)) ≡ (if up then option_to_list (change t true) else [])
  here_by x xs true is at none =
      ap (λ b. told t (filter_map over (cond b (x ∷ filter (λ x. x.up) xs) (filter (λ x. x.up) xs)))) is
      ∙ (λ i. told t (cons_option (send_to (at i) (change (at i) (is i))) (all_over xs)))
      ∙ told_itself (all_over xs) (change t true) none
  here_by x xs false is at none =
      ap (λ b. told t (filter_map over (cond b (x ∷ filter (λ x. x.up) xs) (filter (λ x. x.up) xs)))) is ∙ none

  abbrev up_among : List SiteSession → Bool
  up_among xs = option_map_or (λ x. x.up) (find (λ x. x.peer.0 == t.0) xs) false

  abbrev TellsOne : List SiteSession → Type 0
  TellsOne xs = told t (all_over xs) ≡ (if up_among xs then option_to_list (change t true) else [])

  one_by : (x : SiteSession) (xs : List SiteSession) (b : Bool) → (x.peer.0 == t.0) ≡ b →
      AllByRecursion (λ u. addr_cmp x.peer u ≡ Less) (map (λ x. x.peer) xs) → TellsOne xs →
      told t (all_over (x ∷ xs))
      ≡ (if option_map_or (λ x. x.up) (cond b (Some x) (find (λ x. x.peer.0 == t.0) xs)) false
      then option_to_list (change t true) else [])
  one_by x xs true is past rest =
      let at = same_addr_true x.peer t is in
      here_by x xs x.up refl at
      (none_told xs (subst (λ u. AllByRecursion (λ v. addr_cmp u v ≡ Less) (map (λ x. x.peer) xs)) at past))
  one_by x xs false is past rest = passed x xs (nat_eq_equiv.symm t.0 x.peer.0 ∙ is) ∙ rest

  tells_one : (xs : List SiteSession) → IsStrictlySortedBy addr_cmp (map (λ x. x.peer) xs) → TellsOne xs
  unfolding IsStrictlySortedBy
  tells_one [] sorted = refl
  tells_one (x ∷ xs) sorted = one_by x xs (x.peer.0 == t.0) refl sorted.0 (tells_one xs sorted.1)

-- each peer is told the change of what is advertised to it, where its session is up
pub told_one : (old new : SiteConf) (p : Prefix) (had has : Option Candidate) →
    IsStrictlySortedBy addr_cmp (map (λ x. x.peer) new.sessions) → (t : Addr) →
    told t (sends_of old new p had has)
    ≡ (if is_up_in new t then option_to_list (change_of p (advert_of (is_up_in old t) (Some old) t p had)
    (advert_of true (Some new) t p has)) else [])
told_one old new p had has sorted t =
    tells_one (λ u up. change_of p (advert_of (is_up_in old u) (Some old) u p had) (advert_of up (Some new) u p has)) t
    new.sessions sorted

-- WHAT A DELIVERY SENDS

some_mapped : {A B : Type 0} (f : A → B) (o : Option A) → is_some (option_map f o) ≡ is_some o
some_mapped f None = refl
some_mapped f (Some x) = refl

pub node_there : (c : Configuration) (r : Addr) (site : SiteConf) → site_of c r ≡ Some site → has_node c r ≡ true
unfolding site_of
node_there c r site at = sym (some_mapped _ (node_at c r)) ∙ ap is_some at

never : (a b : Bool) → (a && not true && b) ≡ false
never true b = refl
never false b = refl

module _ (s s' : Network) (conf : s'.conf ≡ s.conf) (r : Addr) (p : Prefix) (stays : (f : Addr) (q : Prefix) →
    (same_addr f r && same_prefix q p) ≡ false → best s' f q ≡ best s f q) where
  module _ (site : SiteConf) (at : site_of s.conf r ≡ Some site)
      (sorted : IsStrictlySortedBy addr_cmp (map (λ x. x.peer) site.sessions)) (router : is_virtual s.conf r ≡ false)
      (ups : (t : Addr) → is_up_in site t ≡ is_up s.conf r t) where
    module _ (had has : Option Candidate) (was : best s r p ≡ had) (is : best s' r p ≡ has) where
      sends_if_up : (t : Addr) → sends s.conf r t ≡ is_up_in site t
      sends_if_up t = λ i. node_there s.conf r site at i && not (router i) && sym (ups t) i

      same_change : (t : Addr) → is_up_in site t ≡ true →
          change_of p (advert_of (is_up_in site t) (Some site) t p had) (advert_of true (Some site) t p has)
          ≡ change_of p (advertised s r t p) (advertised s' r t p)
      unfolding advertised
      same_change t up =
          let up_now : true ≡ is_up s'.conf r t = sym up ∙ ups t ∙ ap (λ c. is_up c r t) (sym conf) in
          let site_now : Some site ≡ site_of s'.conf r = sym at ∙ ap (λ c. site_of c r) (sym conf) in
          λ i. change_of p (advert_of (ups t i) (sym at i) t p (sym was i))
          (advert_of (up_now i) (site_now i) t p (sym is i))

      same_if_up : (t : Addr) (up : Bool) → is_up_in site t ≡ up →
          (if up then option_to_list (change_of p (advert_of (is_up_in site t) (Some site) t p had)
          (advert_of true (Some site) t p has)) else [])
          ≡ (if up then option_to_list (change_of p (advertised s r t p) (advertised s' r t p)) else [])
      same_if_up t true up = ap option_to_list (same_change t up)
      same_if_up t false down = refl

      told_by : (f t : Addr) (here : Bool) → same_addr f r ≡ here →
          (if here then told t (sends_of site site p had has) else []) ≡ (if here && sends s.conf f t
          then option_to_list (change_of p (advertised s r t p) (advertised s' r t p)) else [])
      told_by f t true is_here =
          told_one site site p had has sorted t
          ∙ same_if_up t (is_up_in site t) refl
          ∙ ap (λ b. if b then option_to_list (change_of p (advertised s r t p) (advertised s' r t p)) else [])
          (sym (sends_if_up t) ∙ ap (λ x. sends s.conf x t) (sym (same_addr_true f r is_here)))
      told_by f t false is_here = refl

      -- what a router sends when its choice changes is what the machine sends
      pub delivered_is_sent : (f t : Addr) → told_from r (sends_of site site p had has) f t ≡ sent s s' f t
      delivered_is_sent f t = told_by f t (same_addr f r) refl ∙ sym (sent_by_one s s' conf r p stays f t)

  silent : (f t : Addr) (here : Bool) → same_addr f r ≡ here → is_virtual s.conf r ≡ true →
      (here && sends s.conf f t) ≡ false
  silent f t true is peer = ap (λ x. sends s.conf x t) (same_addr_true f r is)
      ∙ ap (λ b. has_node s.conf r && not b && is_up s.conf r t) peer ∙ never (has_node s.conf r) (is_up s.conf r t)
  silent f t false is peer = refl

  -- nobody sends anything when what a virtual peer holds changes
  pub stored_is_sent : is_virtual s.conf r ≡ true → (f t : Addr) → told_from r [] f t ≡ sent s s' f t
  stored_is_sent peer f t =
      nothing_if (same_addr f r)
      ∙ ap (λ b. if b then option_to_list (change_of p (advertised s r t p) (advertised s' r t p)) else [])
      (sym (silent f t (same_addr f r) refl peer))
      ∙ sym (sent_by_one s s' conf r p stays f t)
