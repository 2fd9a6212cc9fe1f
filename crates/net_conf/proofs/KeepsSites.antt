-- The sites that are kept, after an edit.
use Rattle.std.proofs.Common.{◌≡◌, ℕ, ◌+◌, ◌<◌, Bool, true, false, cond, ◌||◌, List, [], ◌∷◌, map, take, length, get_or, Option, Some, None, option_map, is_some, if◌then◌else◌, refl, sym, ap, ◌∙◌, subst}
use Rattle.std.specs.Option.{unwrap_or}
use Rattle.std.specs.Cmp.{unsigned_ties}
use Rattle.std.specs.Ordering.{is_eq}
use Rattle.std.specs.List.Sorted.{IsStrictlySortedBy}
use Rattle.std.specs.Map.{keys_of, lookup, remove_entry}
use Rattle.std.specs.BTreeMap.{insert_entry, is_at}
use Rattle.std.proofs.lemmas.Bool.{true≢false}
use Rattle.std.proofs.lemmas.Cmp.{nat_eq_equiv, eq_by_cmp_equiv}
use Rattle.std.proofs.lemmas.Map.{lookup-remove_entry}
use Rattle.std.proofs.lemmas.Map.Keys.{IsDistinct-from_sorted}
use Rattle.std.proofs.lemmas.List.Folds.{list_any_more}
use Rattle.std.proofs.lemmas.Option.{none-some, same_Some}
use Rattle.net_prefix.specs.declared.addr.Addr.{Addr}
use Rattle.net_prefix.specs.Address.{addr_cmp}
use Rattle.net_prefix.specs.Orders.{addr_exact, addr_total}
use Rattle.net_conf.specs.declared.site.SiteConf.{SiteConf}
use Rattle.net_conf.specs.declared.tables.Link.{Link}
use Rattle.net_conf.specs.declared.tables.Ends.{Ends}
use Rattle.net_conf.specs.declared.tables.Node.{Node}
use Rattle.net_conf.specs.Configuration.{Configuration, node_at, is_kind_virtual, ends_session}
use Rattle.net_conf.specs.Concerned.{is_among, StaysAt}
use Rattle.net_conf.specs.Costs.{is_up}
use Rattle.net_conf.specs.declared.edit.Edit.{Edit}
use Rattle.net_conf.specs.Edits.{edited, refusal_of}
use Rattle.net_conf.specs.Kept.{IsLinked, IsRelinked, link_in, asked, relinked}
use Rattle.net_conf.specs.RouterSites.{router_site, site_kept, site_made}
use Rattle.net_conf.specs.Sites.{session_of, peers_of, site_at, site_of}
use Rattle.net_conf.proofs.Carry.{one_address}
use Rattle.net_conf.proofs.Inserted.{found_in}
use Rattle.net_conf.proofs.KeptTrees.{equal_when}
use Rattle.net_conf.proofs.Concerns.{own_costs, up_turned}
use Rattle.net_conf.proofs.TreesAfter.{linked_after}

-- where the router's part and its ends stay, so does its site
pub same_kept : (c d : Configuration) (r : Addr) → StaysAt c d r → ends_session d r ≡ ends_session c r →
    site_kept d r ≡ site_kept c r
same_kept c d r stays ends = ap (λ t. if t then router_site d r else None) ends ∙ by (ends_session c r) refl
  where
    by : (t : Bool) → ends_session c r ≡ t →
        (if t then router_site d r else None) ≡ (if t then router_site c r else None)
    by true is = stays.facts ∙ ap (λ x. option_map (λ (s : SiteConf). record s { costs = x }) (router_site c r))
        (stays.costs is) ∙ own_costs c r
    by false is = refl

-- the site of an end of a session
pub kept_there : (c : Configuration) (r : Addr) → ends_session c r ≡ true → site_kept c r ≡ router_site c r
kept_there c r is = ap (λ t. if t then router_site c r else None) is

-- where none is kept, the one that is made is the router's
pub made_then : (c : Configuration) (r : Addr) → site_kept c r ≡ None → site_made c r ≡ router_site c r
made_then c r none = by (ends_session c r) none
  where
    by : (t : Bool) → (if t then router_site c r else None) ≡ None →
        (if t then None else router_site c r) ≡ router_site c r
    by true is = sym is
    by false is = refl

pub kept_then : (c : Configuration) (r : Addr) (site : SiteConf) → site_kept c r ≡ Some site →
    router_site c r ≡ Some site
kept_then c r site is = by (ends_session c r) is
  where
    by : (t : Bool) → (if t then router_site c r else None) ≡ Some site → router_site c r ≡ Some site
    by true it = it
    by false it = absurd (none-some site it)

-- LINKS

pub relinked_by : (c d : Configuration) (a b : Addr) → IsLinked c d a b → IsRelinked c d
relinked_by c d a b linked = linked.is ∙ ap (λ (x : Configuration). record c { links = x.links }) (sym linked.is)

pub relinked_after : (c : Configuration) (e : Edit) → refusal_of c e ≡ None → is_some (link_in e) ≡ true →
    IsRelinked c (edited c e)
relinked_after c e none some = by (link_in e) refl some
  where
    by : (o : Option (Addr × Addr)) → link_in e ≡ o → is_some o ≡ true → IsRelinked c (edited c e)
    by None is it = absurd (true≢false (sym it))
    by (Some p) is it = relinked_by c (edited c e) p.0 p.1 (linked_after c e p.0 p.1 none is)

module _ (c : Configuration) (links : List (Ends × Link)) (r : Addr) where
  abbrev with_links : Configuration
  with_links = record c { links = links }

  each_asked : (us : List Addr) → map (session_of with_links r) us ≡ map (asked with_links r) (map (session_of c r) us)
  each_asked [] = refl
  each_asked (u ∷ us) = ap (λ xs. session_of with_links r u ∷ xs) (each_asked us)

  site_with_links : router_site with_links r ≡ option_map (relinked with_links r) (router_site c r)
  unfolding site_of
  site_with_links = by (node_at c r)
    where
      one : (n : Node) → site_at with_links r n ≡ relinked with_links r (site_at c r n)
      one n = ap (λ xs. record (site_at with_links r n) { sessions = xs }) (each_asked (peers_of c r))

      by : (o : Option Node) → (if unwrap_or (option_map (λ n. is_kind_virtual n.kind) o) false then None
          else option_map (site_at with_links r) o) ≡ option_map (relinked with_links r)
          (if unwrap_or (option_map (λ n. is_kind_virtual n.kind) o) false then None else option_map (site_at c r) o)
      by None = refl
      by (Some n) = at (is_kind_virtual n.kind)
        where
          at : (virtual : Bool) → (if virtual then None else Some (site_at with_links r n))
              ≡ option_map (relinked with_links r) (if virtual then None else Some (site_at c r n))
          at true = refl
          at false = ap Some (one n)

pub site_after_link : (c d : Configuration) (r : Addr) → IsRelinked c d →
    router_site d r ≡ option_map (relinked d r) (router_site c r)
site_after_link c d r is =
    ap (λ x. router_site x r) is
    ∙ site_with_links c d.links r
    ∙ ap (λ x. option_map (relinked x r) (router_site c r)) (sym is)

-- where the router's sessions stay up or down, they are what is asked
module _ (c d : Configuration) (r : Addr) (same : (u : Addr) → is_up d u r ≡ is_up c u r) where
  one_asked : (u : Addr) → asked d r (session_of c r u) ≡ session_of c r u
  one_asked u = ap (λ (up : Bool). record (session_of c r u) { up = up }) (up_turned d r u ∙ same u ∙ up_turned c u r)

  all_asked : (us : List Addr) → map (asked d r) (map (session_of c r) us) ≡ map (session_of c r) us
  all_asked [] = refl
  all_asked (u ∷ us) = λ i. one_asked u i ∷ all_asked us i

  pub sessions_stay_in : (site : SiteConf) → router_site c r ≡ Some site → map (asked d r) site.sessions ≡ site.sessions
  unfolding site_of
  sessions_stay_in site is = by (node_at c r) is
    where
      by : (o : Option Node) → (if unwrap_or (option_map (λ n. is_kind_virtual n.kind) o) false then None
          else option_map (site_at c r) o) ≡ Some site → map (asked d r) site.sessions ≡ site.sessions
      by None it = absurd (none-some site it)
      by (Some n) it = at (is_kind_virtual n.kind) it
        where
          at : (virtual : Bool) → (if virtual then None else Some (site_at c r n)) ≡ Some site →
              map (asked d r) site.sessions ≡ site.sessions
          at true it = absurd (none-some site it)
          at false it = subst (λ (s : SiteConf). map (asked d r) s.sessions ≡ s.sessions)
              (same_Some (site_at c r n) site it) (all_asked (peers_of c r))

-- ONE SITE MORE

turned : (a r : Addr) → is_at (addr_cmp a) r ≡ is_at (addr_cmp r) a
turned a r = sym (unsigned_ties a.0 r.0) ∙ nat_eq_equiv.symm a.0 r.0 ∙ unsigned_ties r.0 a.0

-- one more of the routers
pub one_renewed : (f : Addr → Option SiteConf) (old : Option SiteConf) (r : Addr) (xs : List Addr) (i : ℕ) (d : Addr) →
    i < length xs → cond (is_at (addr_cmp (get_or xs i d)) r) (f (get_or xs i d))
    (cond (is_among r (take i xs)) (f r) old) ≡ cond (is_among r (take (i + 1) xs)) (f r) old
one_renewed f old r xs i d lt =
    ap (λ t. cond t (f x) (cond (is_among r (take i xs)) (f r) old)) (turned x r)
    ∙ by (is_at (addr_cmp r) x) (is_among r (take i xs)) refl
    ∙ ap (λ t. cond t (f r) old) (sym (list_any_more (is_at (addr_cmp r)) xs i d lt))
  where
    x : Addr
    x = get_or xs i d

    by : (t u : Bool) → is_at (addr_cmp r) x ≡ t → cond t (f x) (cond u (f r) old) ≡ cond (u || t) (f r) old
    by true true is = ap f (sym (one_address r x is))
    by true false is = ap f (sym (one_address r x is))
    by false true is = refl
    by false false is = refl

-- what is the same for those that are not among them is so for all
pub either_kept : (new old : Option SiteConf) (t : Bool) → (t ≡ false → new ≡ old) → cond t new old ≡ new
either_kept new old true same = refl
either_kept new old false same = sym (same refl)

-- ONE SITE PUT IN, OR TAKEN OUT

-- what is found after the router's own is put in
pub site_put : (a r : Addr) (site : SiteConf) (es : List (Addr × SiteConf)) →
    lookup (is_at (addr_cmp r)) (insert_entry addr_cmp es a site) ≡ cond (is_at (addr_cmp a) r) (Some site)
    (lookup (is_at (addr_cmp r)) es)
site_put a r site es = found_in addr_cmp addr_exact a site addr_total r es
    ∙ ap (λ t. cond t (Some site) (lookup (is_at (addr_cmp r)) es)) (sym (turned a r))

-- and after it is taken out
pub site_taken : (a r : Addr) (es : List (Addr × SiteConf)) → IsStrictlySortedBy addr_cmp (keys_of es) →
    lookup (is_at (addr_cmp r)) (remove_entry (is_at (addr_cmp a)) es) ≡ cond (is_at (addr_cmp a) r) None
    (lookup (is_at (addr_cmp r)) es)
site_taken a r es sorted = lookup-remove_entry (eq_by_cmp_equiv addr_total) (is_at (addr_cmp a))
    (λ x y is. ap is_eq (addr_total.congr a x y (equal_when (addr_cmp a x) is))) r es
    (IsDistinct-from_sorted addr_cmp (keys_of es) sorted)
