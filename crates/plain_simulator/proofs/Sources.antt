-- The sources of standings, in order, and why each one's route was chosen or dropped.
use Rattle.std.proofs.Common.{◌≡◌, Bool, true, false, cond, ◌&&◌, T, List, [], ◌∷◌, map, fold, Option, Some, option_map, refl, sym, ap, ◌∙◌}
use Rattle.std.specs.declared.cmp.Ordering.{Ordering}
use Rattle.std.specs.declared.cmp.Ordering.TheVariants.{Less, Equal, Greater}
use Rattle.std.specs.Ordering.{is_eq, is_lt, ordering_reverse, match_ordering}
use Rattle.std.specs.Cmp.{IsTotalOrder, tied_itself}
use Rattle.std.specs.List.{filter_map, cons_option, AllByRecursion}
use Rattle.std.proofs.lemmas.List.{nil_from_length}
use Rattle.std.proofs.lemmas.List.Sums.{fold-append}
use Rattle.std.specs.BTreeSet.{insert_key}
use Rattle.std.specs.FinMap as finite
use Rattle.std.specs.FinMap.Entries.{put, by_order, find, below_all, is_sorted}
use Rattle.net_prefix.specs.Prefix.{Prefix}
use Rattle.path_attr.specs.declared.attr.Attr.{Attr}
use Rattle.net_conf.specs.declared.site.SiteConf.{SiteConf}
use Rattle.net_conf.specs.declared.site.SiteSession.{SiteSession}
use Rattle.route_select.specs.declared.candidate.Source.{Source}
use Rattle.route_select.specs.declared.candidate.Reason.{Reason}
use Rattle.route_select.specs.declared.candidate.Standing.{Standing}
use Rattle.route_select.specs.Selection.{Standings, no_standings, with_standing, source_cmp, considered, reason_for, reason_in}
use Rattle.route_select.proofs.EntryLemmas.{source_total}
use Rattle.reference_machine.specs.declared.rows.RouteKey.{RouteKey}
use Rattle.reference_machine.specs.Decision.{own_standings, standing_from, routes_at, added, standings}
use Rattle.reference_machine.specs.Reports.{why, reasons_of}

-- THE KEYS OF A MAP

module _ {K X : Type 0} (R : K → K → Ordering) where
  put_by_order : (r : Ordering) (k : K) (v : X) (e : K × X) (es more : List (K × X)) (keys : List K) →
      map (λ x. x.0) more ≡ keys → map (λ x. x.0) (by_order r ((k, v) ∷ e ∷ es) ((e.0, v) ∷ es) (e ∷ more))
      ≡ match_ordering r (k ∷ e.0 ∷ map (λ x. x.0) es) (e.0 ∷ map (λ x. x.0) es) (e.0 ∷ keys)
  put_by_order Less k v e es more keys is = refl
  put_by_order Equal k v e es more keys is = refl
  put_by_order Greater k v e es more keys is = ap (λ ks. e.0 ∷ ks) is

  -- an entry put in its place puts its key in its place
  keys_put : (k : K) (v : X) (es : List (K × X)) → map (λ e. e.0) (put R k v es) ≡ insert_key R (map (λ e. e.0) es) k
  keys_put k v [] = refl
  keys_put k v (e ∷ es) = put_by_order (R k e.0) k v e es (put R k v es) (insert_key R (map (λ x. x.0) es) k)
      (keys_put k v es)

keys_inserted : (m : Standings) (k : Source) (v : Standing) →
    finite.keys (with_standing k v m).known ≡ insert_key source_cmp (finite.keys m.known) k
keys_inserted m k v = ap (map (λ e. e.0)) (finite.entries-insert source_total m.known k v)
    ∙ keys_put source_cmp k v (finite.entries m.known)

-- the sources of the standings to which these were added
pub keys_added : (m : Standings) (es : List (Source × Standing)) →
    finite.keys (added m es).known ≡ fold (λ ks e. insert_key source_cmp ks e.0) (finite.keys m.known) es
keys_added m [] = refl
keys_added m (e ∷ es) = keys_added (with_standing e.0 e.1 m) es
    ∙ ap (λ ks. fold (λ js x. insert_key source_cmp js x.0) ks es) (keys_inserted m e.0 e.1)

no_entries : finite.entries (finite.empty {K = Source} {X = Standing} {R = source_cmp}) ≡ []
no_entries = nil_from_length _ (sym (finite.len-entries (finite.empty {K = Source} {X = Standing} {R = source_cmp}))
    ∙ finite.len-empty source_cmp Standing)

abbrev with_sources : List Source → List (Source × Standing) → List Source
with_sources ks es = fold (λ js e. insert_key source_cmp js e.0) ks es

-- the router itself and its peers, each put in its place, are the sources of its standings
pub sources_of : (site : SiteConf) (p : Prefix) (es : List (RouteKey × Attr)) (sessions : List SiteSession)
    (none own all : List Source) → sessions ≡ site.sessions → none ≡ [] →
    own ≡ with_sources none (own_standings site p) →
    all ≡ with_sources own (filter_map (standing_from site p es) sessions) →
    all ≡ finite.keys (standings site p es).known
sources_of site p es sessions none own all are empty first_are all_are =
    let peers : List (Source × Standing) = filter_map (standing_from site p es) site.sessions in
    all_are
    ∙ ap (λ xs. with_sources own (filter_map (standing_from site p es) xs)) are
    ∙ ap (λ ks. with_sources ks peers) (first_are ∙ ap (λ ks. with_sources ks (own_standings site p)) (empty
    ∙ sym (ap (map (λ x. x.0)) no_entries)))
    ∙ sym (fold-append (λ js e. insert_key source_cmp js e.0)
    (finite.keys (finite.empty {K = Source} {X = Standing} {R = source_cmp})) (own_standings site p) peers)
    ∙ sym (keys_added (no_standings site.med_always) (routes_at site p es))

-- WHAT A MAP HAS AT ITS KEYS

first : (a b : Bool) → T (a && b) → T a
first true b h = tt
first false b h = h

second : (a b : Bool) → T (a && b) → T b
second true b h = h
second false b h = absurd h

less : (r : Ordering) → T (is_lt r) → r ≡ Less
less Less h = refl
less Equal h = absurd h
less Greater h = absurd h

module _ {K X : Type 0} {R : K → K → Ordering} (o : IsTotalOrder R) where
  -- an entry after a key that is lower is found behind it
  behind : (e x : K × X) (es : List (K × X)) → T (is_lt (R e.0 x.0)) → find R x.0 es ≡ Some x.1 →
      find R x.0 (e ∷ es) ≡ Some x.1
  behind e x es lt is = ap (λ r. cond (is_eq r) (Some e.1) (find R x.0 es)) (o.antisymm x.0 e.0
      ∙ ap ordering_reverse (less (R e.0 x.0) lt)) ∙ is

  all_behind : (e : K × X) (es xs : List (K × X)) → T (below_all R e.0 xs) →
      AllByRecursion (λ x. find R x.0 es ≡ Some x.1) xs → AllByRecursion (λ x. find R x.0 (e ∷ es) ≡ Some x.1) xs
  all_behind e es [] below h = tt
  all_behind e es (x ∷ xs) below h = (
    behind e x es (first (is_lt (R e.0 x.0)) (below_all R e.0 xs) below) h.0,
    all_behind e es xs (second (is_lt (R e.0 x.0)) (below_all R e.0 xs) below) h.1,
  )

  -- each entry of a list in order is found at its key
  all_found : (es : List (K × X)) → T (is_sorted R es) → AllByRecursion (λ x. find R x.0 es ≡ Some x.1) es
  all_found [] sorted = tt
  all_found (e ∷ es) sorted = (
    ap (λ r. cond (is_eq r) (Some e.1) (find R e.0 es)) (tied_itself o e.0),
    all_behind e es es (first (below_all R e.0 es) (is_sorted R es) sorted)
        (all_found es (second (below_all R e.0 es) (is_sorted R es) sorted)),
  )

module _ (standings : Standings) where
  abbrev at_source : Source → Option (Source × Reason)
  at_source source = option_map (λ reason. (source, reason)) (reason_in standings source)

  each_reason : (es : List (Source × Standing)) →
      AllByRecursion (λ x. find source_cmp x.0 (finite.entries standings.known) ≡ Some x.1) es →
      filter_map at_source (map (λ e. e.0) es) ≡ map (why standings) es
  each_reason [] h = refl
  each_reason (e ∷ es) h =
      ap (λ o. cons_option (option_map (λ reason. (e.0, reason))
      (option_map (reason_for standings.med_always (considered standings)) o))
      (filter_map at_source (map (λ x. x.0) es))) (finite.get-entries standings.known e.0 ∙ h.0)
      ∙ ap (λ xs. why standings e ∷ xs) (each_reason es h.1)

  -- what is said of each source, in order, is what is said of each entry
  reasons_by_source : filter_map at_source (finite.keys standings.known) ≡ reasons_of standings
  reasons_by_source = each_reason (finite.entries standings.known)
      (all_found source_total (finite.entries standings.known) (finite.entries_sorted standings.known))

-- so what is said of the sources of standings is what is said of their entries
pub said_of : (m all : Standings) (ks : List Source) → m ≡ all → ks ≡ finite.keys all.known →
    filter_map (at_source m) ks ≡ reasons_of all
said_of m all ks is keys = ap (λ n. filter_map (at_source n) ks) is ∙ ap (filter_map (at_source all)) keys
    ∙ reasons_by_source all
