-- What the routers send for an edit is what the machine sends.
use Rattle.std.proofs.Common.{◌≡◌, Bool, true, false, cond, not, ◌&&◌, List, [], ◌∷◌, ◌++◌, map, filter, Option, Some, None, option_map, option_and_then, is_some, unwrap_or, if◌then◌else◌, refl, sym, ap, ◌∙◌}
use Rattle.std.proofs.lemmas.Bool.{true≢false, and_parts}
use Rattle.std.proofs.lemmas.List.{append-nil, map-append}
use Rattle.std.proofs.lemmas.List.Elements.{filter-append}
use Rattle.std.specs.declared.cmp.Ordering.{Ordering}
use Rattle.std.specs.declared.cmp.Ordering.TheVariants.{Less, Equal, Greater}
use Rattle.std.specs.Ordering.{is_lt, is_eq, eq_by_cmp, ordering_reverse}
use Rattle.std.specs.Cmp.{IsTotalOrder, unsigned_ties, tied_itself}
use Rattle.std.specs.Option.{option_to_list}
use Rattle.std.specs.List.{AllByRecursion, list_any, flat_map, filter_map, cons_option}
use Rattle.std.specs.List.Sorted.{IsStrictlySortedBy}
use Rattle.std.specs.Map.{keys_of}
use Rattle.std.specs.FinMap as finite
use Rattle.std.specs.FinMap.Entries as entries
use Rattle.net_prefix.specs.declared.addr.Addr.{Addr}
use Rattle.net_prefix.specs.Address.{same_addr, addr_cmp}
use Rattle.net_prefix.specs.Prefix.{Prefix, prefix_cmp}
use Rattle.net_prefix.specs.Orders.{prefix_total}
use Rattle.prefix_table.specs.Tables.{Table}
use Rattle.session_queue.specs.declared.message.Message.{Message}
use Rattle.session_queue.specs.Lines.{messages_at}
use Rattle.session_queue.specs.Waiting.{Queues, nothing_waits, queue_at}
use Rattle.net_conf.specs.Configuration.{Configuration, node_at, has_node, is_virtual, is_kind_virtual, has_session}
use Rattle.net_conf.specs.Configured.{IsConfigured}
use Rattle.net_conf.specs.Costs.{is_up}
use Rattle.net_conf.specs.Edits.{edited, refusal_of}
use Rattle.net_conf.specs.RouterSites.{router_site}
use Rattle.net_conf.specs.Sites.{site_at, site_of}
use Rattle.net_conf.specs.declared.edit.Edit.{Edit}
use Rattle.net_conf.specs.declared.tables.Node.{Node}
use Rattle.net_conf.specs.declared.site.SiteConf.{SiteConf}
use Rattle.net_conf.proofs.RouterLaws.{site_sessions_in_order}
use Rattle.route_select.specs.Selection.{best_of}
use Rattle.reference_machine.specs.Network.{Network}
use Rattle.reference_machine.specs.Decision.{best, standings}
use Rattle.reference_machine.specs.Advertising.{advert_of, advertised, change_of, sends, changes, sent}
use Rattle.reference_machine.specs.Machine.{reconfigured, after_edit, with_sent}
use Rattle.cell_engine.specs.RouterTables.{table_at, value_at}
use Rattle.cell_engine.specs.Cells.{Cell, new_cell, is_up_in, refreshed}
use Rattle.cell_engine.specs.State.{State, IsConsistent, cell_at, network}
use Rattle.cell_engine.specs.Keeping.{kept_cell, kept_tables}
use Rattle.cell_engine.specs.Sending.{told}
use Rattle.cell_engine.specs.Editing.{left_at, with_origin, sends_between, cell_sends, router_sends, all_sends, told_by_all, edited_engine}
use Rattle.cell_engine.proofs.Chunks.{of_T}
use Rattle.cell_engine.proofs.Flat.{no_cells}
use Rattle.cell_engine.proofs.Decided.{none_best, best_in_cell}
use Rattle.cell_engine.proofs.Sites.{up_in_site, refreshed_is_kept, site_of_router}
use Rattle.cell_engine.proofs.Kept.{value_kept}
use Rattle.cell_engine.proofs.Offers.{same_addr_true, turn, changes_from}
use Rattle.cell_engine.proofs.Told.{told_one, node_there}
use Rattle.cell_engine.proofs.AcceptedEdits.{passes, node_kept, placed_before}
use Rattle.cell_engine.proofs.Directions.{session_if_up, down_without_session}
use Rattle.cell_engine.proofs.AfterEdit.{originating, sound_originating, network_originating, sound_edited, received_edited, network_left_and_more}

-- LISTS

module _ {A B : Type 0} where
  flat_none : (g : A → List B) → ((x : A) → g x ≡ []) → (xs : List A) → flat_map g xs ≡ []
  flat_none g none [] = refl
  flat_none g none (x ∷ xs) = λ i. none x i ++ flat_none g none xs i

option_cons : {A : Type 0} (o : Option A) (xs : List A) → option_to_list o ++ xs ≡ cons_option o xs
option_cons None xs = refl
option_cons (Some x) xs = refl

-- what gives one thing at most for each key picks it from the keys
picked_each : {K V A : Type 0} (g : K × V → List A) (f : K → Option A) (es : List (K × V)) →
    AllByRecursion (λ e. g e ≡ option_to_list (f e.0)) es → flat_map g es ≡ filter_map f (keys_of es)
picked_each g f [] all = refl
picked_each g f (e ∷ es) all = (λ i. all.0 i ++ picked_each g f es all.1 i)
    ∙ option_cons (f e.0) (filter_map f (keys_of es))

pub all_from : {A : Type 0} (P Q : A → Type 0) → ((x : A) → P x → Q x) → (xs : List A) → AllByRecursion P xs →
    AllByRecursion Q xs
all_from P Q h [] all = tt
all_from P Q h (x ∷ xs) all = (h x all.0, all_from P Q h xs all.1)

-- ENTRIES IN ORDER

pub less_of : (o : Ordering) → is_lt o ≡ true → o ≡ Less
less_of Less h = refl
less_of Equal h = absurd (true≢false (sym h))
less_of Greater h = absurd (true≢false (sym h))

module _ {K X : Type 0} {R : K → K → Ordering} (o : IsTotalOrder R) where
  past_all : (k : K) (es : List (K × X)) → entries.below_all R k es ≡ true →
      AllByRecursion (λ y. R k y ≡ Less) (keys_of es)
  past_all k [] h = tt
  past_all k (e ∷ es) h =
      let parts = and_parts (is_lt (R k e.0)) (entries.below_all R k es) h in
      (less_of (R k e.0) parts.0, past_all k es parts.1)

  keys_in_order : (es : List (K × X)) → entries.is_sorted R es ≡ true → IsStrictlySortedBy R (keys_of es)
  unfolding IsStrictlySortedBy
  keys_in_order [] h = tt
  keys_in_order (e ∷ es) h =
      let parts = and_parts (entries.below_all R e.0 es) (entries.is_sorted R es) h in
      (past_all e.0 es parts.0, keys_in_order es parts.1)

  -- each entry is the one that is found by its key
  found_later : (e : K × X) (es xs : List (K × X)) → entries.below_all R e.0 xs ≡ true →
      AllByRecursion (λ x. entries.find R x.0 es ≡ Some x.1) xs →
      AllByRecursion (λ x. entries.find R x.0 (e ∷ es) ≡ Some x.1) xs
  found_later e es [] h all = tt
  found_later e es (x ∷ xs) h all =
      let parts = and_parts (is_lt (R e.0 x.0)) (entries.below_all R e.0 xs) h in
      let after : R x.0 e.0 ≡ Greater = o.antisymm x.0 e.0 ∙ ap ordering_reverse (less_of (R e.0 x.0) parts.0) in
      (ap (λ r. cond (is_eq r) (Some e.1) (entries.find R x.0 es)) after ∙ all.0, found_later e es xs parts.1 all.1)

  pub found_each : (es : List (K × X)) → entries.is_sorted R es ≡ true →
      AllByRecursion (λ x. entries.find R x.0 es ≡ Some x.1) es
  found_each [] h = tt
  found_each (e ∷ es) h =
      let parts = and_parts (entries.below_all R e.0 es) (entries.is_sorted R es) h in (
        ap (λ r. cond (is_eq r) (Some e.1) (entries.find R e.0 es)) (tied_itself o e.0),
        found_later e es es parts.0 (found_each es parts.1),
      )

-- WHAT ONE IS TOLD BY ALL

pub told_append : (t : Addr) (xs ys : List (Addr × Message)) → told t (xs ++ ys) ≡ told t xs ++ told t ys
told_append t xs ys =
    ap (map (λ e. e.1)) (filter-append (λ e. same_addr t e.0) xs ys)
    ∙ map-append (λ e. e.1) (filter (λ e. same_addr t e.0) xs) (filter (λ e. same_addr t e.0) ys)

module _ (c d : Configuration) (t : Addr) where
  told_cells : (r : Addr) (cells : List (Prefix × Cell)) →
      told t (router_sends c d r cells) ≡ flat_map (λ e. told t (cell_sends c d r e.0 e.1)) cells
  told_cells r [] = refl
  told_cells r (e ∷ es) = told_append t (cell_sends c d r e.0 e.1) (router_sends c d r es)
      ∙ ap (λ l. told t (cell_sends c d r e.0 e.1) ++ l) (told_cells r es)

  abbrev by_all : List (Addr × Table Cell) → Addr → List Message
  by_all ts f = told_by_all (all_sends c d ts) f t

  not_tied : (r : Ordering) → r ≡ Less → is_eq r ≡ false
  not_tied r h = ap is_eq h

  -- nothing by routers that come after
  told_past : (f : Addr) (ts : List (Addr × Table Cell)) → entries.below_all addr_cmp f ts ≡ true → by_all ts f ≡ []
  told_past f [] h = refl
  told_past f (x ∷ xs) h =
      let parts = and_parts (is_lt (addr_cmp f x.0)) (entries.below_all addr_cmp f xs) h in
      ap (λ b. (if b then told t (router_sends c d x.0 (finite.entries x.1)) else []) ++ by_all xs f)
      (unsigned_ties f.0 x.0.0 ∙ not_tied (addr_cmp f x.0) (less_of (addr_cmp f x.0) parts.0))
      ∙ told_past f xs parts.1

  abbrev by_router : Addr → Table Cell → List Message
  by_router r cells = told t (router_sends c d r (finite.entries cells))

  abbrev Told : Addr → List (Addr × Table Cell) → Type 0
  Told f ts = by_all ts f ≡ by_router f (table_at f ts)

  told_by : (b : Bool) (f : Addr) (x : Addr × Table Cell) (xs : List (Addr × Table Cell)) → same_addr f x.0 ≡ b →
      entries.below_all addr_cmp x.0 xs ≡ true → Told f xs → (if b then by_router x.0 x.1 else []) ++ by_all xs f
      ≡ by_router f (unwrap_or (cond b (Some x.1) (entries.find addr_cmp f xs)) finite.empty)
  told_by true f x xs is below rest =
      let at : f ≡ x.0 = same_addr_true f x.0 is in
      let none : by_all xs f ≡ [] = told_past f xs (ap (λ k. entries.below_all addr_cmp k xs) at ∙ below) in
      ap (λ l. by_router x.0 x.1 ++ l) none ∙ append-nil (by_router x.0 x.1) ∙ ap (λ r. by_router r x.1) (sym at)
  told_by false f x xs is below rest = rest

  -- what a router sends it sends for the cells of its table
  pub told_at : (f : Addr) (ts : List (Addr × Table Cell)) → entries.is_sorted addr_cmp ts ≡ true → Told f ts
  told_at f [] h = sym (ap (λ es. told t (router_sends c d f es)) no_cells)
  told_at f (x ∷ xs) h =
      let parts = and_parts (entries.below_all addr_cmp x.0 xs) (entries.is_sorted addr_cmp xs) h in
      told_by (same_addr f x.0) f x xs refl parts.0 (told_at f xs parts.1)
      ∙ ap (λ b. by_router f (unwrap_or (cond b (Some x.1) (entries.find addr_cmp f xs)) finite.empty))
      (unsigned_ties f.0 x.0.0)

-- ONE ROUTER

site_none : (virtual there : Bool) (o : Option SiteConf) → is_some o ≡ there → cond virtual None o ≡ None →
    (there && not virtual) ≡ false
site_none true true o is h = refl
site_none true false o is h = refl
site_none false there o is h = ap (λ b. b && true) (sym is ∙ ap is_some h)

pub some_mapped : {A B : Type 0} (f : A → B) (o : Option A) → is_some (option_map f o) ≡ is_some o
some_mapped f None = refl
some_mapped f (Some x) = refl

site_if_node : (c : Configuration) (r : Addr) → is_some (site_of c r) ≡ has_node c r
unfolding site_of
site_if_node c r = some_mapped (site_at c r) (node_at c r)

-- who is no router sends nothing
sends_none : (c : Configuration) (r t : Addr) → router_site c r ≡ None → sends c r t ≡ false
sends_none c r t none = nothing_more (has_node c r) (not (is_virtual c r)) (is_up c r t)
    (site_none (is_virtual c r) (has_node c r) (site_of c r) (site_if_node c r) none) where
      nothing_more : (a b u : Bool) → (a && b) ≡ false → (a && b && u) ≡ false
      nothing_more true b u h = ap (λ x. x && u) h
      nothing_more false b u h = refl

not_virtual : (c : Configuration) (r : Addr) (site : SiteConf) → router_site c r ≡ Some site → is_virtual c r ≡ false
not_virtual c r site is = by (is_virtual c r) is where
  by : (virtual : Bool) → cond virtual None (site_of c r) ≡ Some site → virtual ≡ false
  by true h = cc
  by false h = refl

-- a router sends where its session is up
sends_if_up : (c : Configuration) (r t : Addr) (site : SiteConf) → router_site c r ≡ Some site →
    sends c r t ≡ is_up_in site t
sends_if_up c r t site is =
    let at = site_of_router c r site is in
    λ i. node_there c r site at i && not (not_virtual c r site is i) && sym (up_in_site c r site at t) i

none_if : {A : Type 0} (b : Bool) → ◌≡◌ {A = Option A} (if b then None else None) None
none_if true = refl
none_if false = refl

-- nothing is advertised where nothing is chosen
none_advertised : (s : Network) (f t : Addr) (p : Prefix) → best s f p ≡ None → advertised s f t p ≡ None
unfolding advertised
none_advertised s f t p none = ap (advert_of (is_up s.conf f t) (site_of s.conf f) t p) none
    ∙ none_if (is_up s.conf f t)

-- THE EDIT

module _ (e : State) (sound : IsConsistent e) (edit : Edit) (configured : IsConfigured e.conf)
    (configured_then : IsConfigured (edited e.conf edit)) (none : refusal_of e.conf edit ≡ None) where
  abbrev old : Configuration
  old = e.conf

  abbrev new : Configuration
  new = edited e.conf edit

  abbrev ts : List (Addr × Table Cell)
  ts = with_origin edit e.tables

  abbrev before : Network
  before = network e

  abbrev after : Network
  after = after_edit (network e) edit

  -- CHOICES

  best_before : (f : Addr) (p : Prefix) → is_virtual old f ≡ false →
      best before f p ≡ best_of (cell_at f p ts).standings
  best_before f p router =
      ap (λ s. best s f p) (sym (network_originating e sound edit))
      ∙ best_in_cell (originating e sound edit) (sound_originating e sound edit) f p router

  none_waits : (f t : Addr) → queue_at nothing_waits f t ≡ []
  unfolding queue_at messages_at
  none_waits f t = refl

  same_after : (f : Addr) (p : Prefix) → best after f p ≡ best (network (edited_engine e edit nothing_waits)) f p
  unfolding best network reconfigured
  same_after f p = ap (λ es. option_and_then (λ site. best_of (standings site p es)) (site_of new f))
      (sym (received_edited e sound edit none))

  best_after : (f : Addr) (p : Prefix) → is_virtual new f ≡ false →
      best after f p ≡ best_of (cell_at f p (kept_tables new ts)).standings
  best_after f p router =
      same_after f p ∙ best_in_cell (edited_engine e edit nothing_waits)
      (sound_edited e sound edit none nothing_waits (λ f t alone. none_waits f t)) f p router

  kept_cell_is : (f : Addr) (p : Prefix) (x : Option Cell) → value_at f p ts ≡ x →
      cell_at f p (kept_tables new ts) ≡ unwrap_or (option_map (kept_cell new f p) x) new_cell
  kept_cell_is f p x is = ap (λ y. unwrap_or y new_cell) (value_kept new f p ts
      ∙ ap (option_map (kept_cell new f p)) is)

  -- ONE CELL

  module _ (f t : Addr) (site : SiteConf) (is : router_site new f ≡ Some site) where
    abbrev in_site : site_of new f ≡ Some site
    in_site = site_of_router new f site is

    abbrev cells : List (Prefix × Cell)
    cells = finite.entries (table_at f ts)

    abbrev change_sent : SiteConf → Prefix → Cell → Option Message
    change_sent had p h = change_of p (advert_of (is_up_in had t) (Some had) t p (best_of h.standings))
        (advert_of true (Some site) t p (best_of (refreshed had site p h).cell.standings))

    told_cell : (had : SiteConf) (p : Prefix) (h : Cell) →
        told t (refreshed had site p h).sends ≡ (if is_up_in site t then option_to_list (change_sent had p h) else [])
    unfolding refreshed
    told_cell had p h = told_one had site p (best_of h.standings) (best_of (refreshed had site p h).cell.standings)
        (site_sessions_in_order new f site configured_then in_site) t

    sends_are : (had : Option SiteConf) → router_site old f ≡ had → (p : Prefix) (h : Cell) →
        cell_sends old new f p h ≡ (refreshed (unwrap_or had site) site p h).sends
    sends_are had was p h = λ i. sends_between (was i) (is i) p h

    -- nothing over a session that is down
    cell_down : is_up_in site t ≡ false → (x : Prefix × Cell) → told t (cell_sends old new f x.0 x.1) ≡ []
    cell_down down x =
        let had = unwrap_or (router_site old f) site in
        ap (told t) (sends_are (router_site old f) refl x.0 x.1) ∙ told_cell had x.0 x.1
        ∙ ap (λ b. if b then option_to_list (change_sent had x.0 x.1) else []) down

    module _ (up : is_up_in site t ≡ true) (had : SiteConf) (was : router_site old f ≡ Some had) where
      abbrev was_site : site_of old f ≡ Some had
      was_site = site_of_router old f had was

      -- a cell's change is the machine's
      same_change : (p : Prefix) (h : Cell) → value_at f p ts ≡ Some h → change_sent had p h ≡ turn before after f t p
      unfolding advertised network reconfigured
      same_change p h here =
          let was_up : is_up_in had t ≡ is_up old f t = up_in_site old f had was_site t in
          let up_now : true ≡ is_up new f t = sym up ∙ up_in_site new f site in_site t in
          let chosen_before : best_of h.standings ≡ best before f p =
          sym (best_before f p (not_virtual old f had was) ∙ ap (λ x. best_of (unwrap_or x new_cell).standings) here) in
          let chosen_after : best_of (refreshed had site p h).cell.standings ≡ best after f p =
          ap (λ (x : Cell). best_of x.standings) (refreshed_is_kept new f had site p h is)
          ∙ sym (best_after f p (not_virtual new f site is)
          ∙ ap (λ (x : Cell). best_of x.standings) (kept_cell_is f p (Some h) here)) in
          λ i. change_of p (advert_of (was_up i) (sym was_site i) t p (chosen_before i))
          (advert_of (up_now i) (sym in_site i) t p (chosen_after i))

      cell_up : (x : Prefix × Cell) → entries.find prefix_cmp x.0 cells ≡ Some x.1 →
          told t (cell_sends old new f x.0 x.1) ≡ option_to_list (turn before after f t x.0)
      cell_up x found =
          ap (told t) (sends_are (Some had) was x.0 x.1)
          ∙ told_cell had x.0 x.1
          ∙ ap (λ b. if b then option_to_list (change_sent had x.0 x.1) else []) up
          ∙ ap option_to_list (same_change x.0 x.1 (finite.get-entries (table_at f ts) x.0 ∙ found))

      -- and so is that of no cell: none
      no_cell : (q : Prefix) → list_any (eq_by_cmp prefix_cmp q) (keys_of cells) ≡ false → value_at f q ts ≡ None
      no_cell q off = finite.get-entries (table_at f ts) q
          ∙ none_found (entries.find prefix_cmp q cells) (entries.is_some-find prefix_cmp q cells ∙ off) where
            none_found : (x : Option Cell) → is_some x ≡ false → x ≡ None
            none_found None h = refl
            none_found (Some h) h' = absurd (true≢false h')

      none_sent : (q : Prefix) → list_any (eq_by_cmp prefix_cmp q) (keys_of cells) ≡ false →
          turn before after f t q ≡ None
      none_sent q off =
          let gone = no_cell q off in
          let was_none = best_before f q (not_virtual old f had was)
          ∙ ap (λ x. best_of (unwrap_or x new_cell).standings) gone ∙ none_best in
          let is_none = best_after f q (not_virtual new f site is)
          ∙ ap (λ (x : Cell). best_of x.standings) (kept_cell_is f q None gone) ∙ none_best in
          λ i. change_of q (none_advertised before f t q was_none i) (none_advertised after f t q is_none i)

      told_changes : flat_map (λ x. told t (cell_sends old new f x.0 x.1)) cells ≡ changes before after f t
      told_changes =
          let sorted = of_T _ (finite.entries_sorted (table_at f ts)) in
          picked_each (λ x. told t (cell_sends old new f x.0 x.1)) (turn before after f t) cells
          (all_from (λ x. entries.find prefix_cmp x.0 cells ≡ Some x.1) _ cell_up cells
          (found_each prefix_total cells sorted))
          ∙ sym (changes_from before after f t (keys_of cells) (keys_in_order prefix_total cells sorted) none_sent)

    -- a router that is new has no session
    not_new : router_site old f ≡ None → is_up_in site t ≡ true → ⊥
    not_new was up =
        let ok = passes old edit none in
        let there : has_node old f ≡ true =
        placed_before old configured edit ok f t
        (session_if_up new f t (sym (up_in_site new f site in_site t) ∙ up)) in
        let same : is_virtual old f ≡ false =
        ap (λ (o : Option Node). unwrap_or (option_map (λ n. is_kind_virtual n.kind) o) false)
        (sym (node_kept old edit ok f there)) ∙ not_virtual new f site is in
        true≢false (sym (λ i. there i && not (same i))
        ∙ site_none (is_virtual old f) (has_node old f) (site_of old f) (site_if_node old f) was)

    changes_by : (o : Option SiteConf) → router_site old f ≡ o → is_up_in site t ≡ true →
        flat_map (λ x. told t (cell_sends old new f x.0 x.1)) cells ≡ changes before after f t
    changes_by None was up = absurd (not_new was up)
    changes_by (Some had) was up = told_changes up had was

    router_by : (up : Bool) → is_up_in site t ≡ up → flat_map (λ x. told t (cell_sends old new f x.0 x.1)) cells
        ≡ (if up then changes before after f t else [])
    router_by true up = changes_by (router_site old f) refl up
    router_by false down = flat_none _ (cell_down down) cells

    told_router : flat_map (λ x. told t (cell_sends old new f x.0 x.1)) cells
        ≡ (if sends new f t then changes before after f t else [])
    told_router = router_by (is_up_in site t) refl
        ∙ ap (λ b. if b then changes before after f t else []) (sym (sends_if_up new f t site is))

  told_by_site : (f t : Addr) (o : Option SiteConf) → router_site new f ≡ o →
      flat_map (λ x. told t (cell_sends old new f x.0 x.1)) (finite.entries (table_at f ts))
      ≡ (if sends new f t then changes before after f t else [])
  told_by_site f t None is =
      flat_none _ (λ x. ap (λ o. told t (sends_between (router_site old f) o x.0 x.1)) is)
      (finite.entries (table_at f ts))
      ∙ ap (λ b. if b then changes before after f t else []) (sym (sends_none new f t is))
  told_by_site f t (Some site) is = told_router f t site is

  -- each peer is told by the routers what the machine sends
  pub told_edited : (f t : Addr) → told_by_all (all_sends old new ts) f t ≡ sent before after f t
  unfolding sent network reconfigured
  told_edited f t =
      told_at old new t f ts (sound_originating e sound edit).by_address
      ∙ told_cells old new t f (finite.entries (table_at f ts))
      ∙ told_by_site f t (router_site new f) refl

  -- where there is no session, there is nothing to send
  none_told : (f t : Addr) → has_session new f t ≡ false → told_by_all (all_sends old new ts) f t ≡ []
  unfolding sent network reconfigured
  none_told f t alone =
      told_edited f t ∙ ap (λ b. if b then changes before after f t else [])
      (last_false (has_node new f) (not (is_virtual new f)) (is_up new f t)
      (down_without_session new f t alone)) where
        last_false : (a b u : Bool) → u ≡ false → (a && b && u) ≡ false
        last_false true true u down = down
        last_false true false u down = refl
        last_false false b u down = refl

  -- what is on its way once the routers have sent
  abbrev pub queued_at : Addr → Addr → List Message
  queued_at f t = left_at new e.queues f t ++ told_by_all (all_sends old new ts) f t

  -- and the network is the machine's own after the edit
  pub network_edited : (q : Queues) → ((f t : Addr) → queue_at q f t ≡ queued_at f t) →
      network (edited_engine e edit q) ≡ with_sent before after
  unfolding with_sent
  network_edited q is =
      network_left_and_more e sound edit none (sent before after) q (λ f t. is f t
      ∙ ap (λ l. left_at new e.queues f t ++ l) (told_edited f t))
