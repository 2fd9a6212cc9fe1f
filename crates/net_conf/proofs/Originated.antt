-- What a router originates: in order, and as an edit leaves it.
use Rattle.std.proofs.Common.{◌≡◌, Bool, true, false, cond, ◌==◌, List, [], ◌∷◌, map, filter, Option, Some, None, option_map, if◌then◌else◌, refl, sym, ap, ◌∙◌, subst}
use Rattle.std.specs.declared.cmp.Ordering.{Ordering}
use Rattle.std.specs.declared.cmp.Ordering.TheVariants.{Less, Equal, Greater}
use Rattle.std.specs.Ordering.{is_eq, ordering_then, match_ordering}
use Rattle.std.specs.Cmp.{IsTotalOrder, unsigned_Decides, tied_itself}
use Rattle.std.specs.List.{AllByRecursion}
use Rattle.std.specs.List.Sorted.{IsStrictlySortedBy}
use Rattle.std.specs.Set.{remove_key}
use Rattle.std.specs.BTreeMap.{is_at}
use Rattle.std.specs.BTreeSet.{insert_key}
use Rattle.std.proofs.lemmas.Cmp.{on_total, then_total}
use Rattle.net_prefix.specs.declared.addr.Addr.{Addr}
use Rattle.net_prefix.specs.Address.{addr_cmp}
use Rattle.net_prefix.specs.Prefix.{Prefix, prefix_cmp}
use Rattle.net_prefix.specs.Orders.{addr_total, prefix_total}
use Rattle.net_conf.specs.declared.edit.Edit.{Edit}
use Rattle.net_conf.specs.declared.edit.Edit.TheVariants.{Origin, NoOrigin}
use Rattle.net_conf.specs.declared.site.SiteConf.{SiteConf}
use Rattle.net_conf.specs.declared.tables.Node.{Node}
use Rattle.net_conf.specs.declared.tables.Origination.{Origination}
use Rattle.net_conf.specs.Configuration.{Configuration, node_at, is_virtual, origins_of, origination_cmp}
use Rattle.net_conf.specs.Edits.{edited}
use Rattle.net_conf.specs.Kept.{origins_after, reoriginated}
use Rattle.net_conf.specs.RouterSites.{router_site}
use Rattle.net_conf.specs.Sites.{site_at, site_of}
use Rattle.net_conf.proofs.KeptTrees.{same_address, equal_when}
use Rattle.net_conf.proofs.OthersStay.{origination, origination_exact, origins_alone}

pub origination_total : IsTotalOrder origination_cmp
origination_total = then_total (on_total (λ o. o.router) addr_total) (on_total (λ o. o.prefix) prefix_total)

-- two addresses that are the same compare as equal
tied : (a b r : Addr) → (a.0 == r.0) ≡ true → (b.0 == r.0) ≡ true → addr_cmp a b ≡ Equal
tied a b r at at' = (λ i. addr_cmp (same_address a r at i) (same_address b r at' i)) ∙ tied_itself addr_total r

module _ (r : Addr) where
  -- what the router originates of these
  abbrev originated : List Origination → List Prefix
  originated os = map (λ o. o.prefix) (filter (λ o. o.router.0 == r.0) os)

  itself : (r.0 == r.0) ≡ true
  itself = (unsigned_Decides r.0 r.0).1 refl

  one_more : (p : Prefix) (os : List Origination) → originated (origination r p ∷ os) ≡ p ∷ originated os
  one_more p os = ap (λ b. map (λ (o : Origination). o.prefix)
      (cond b (origination r p ∷ filter (λ o. o.router.0 == r.0) os) (filter (λ o. o.router.0 == r.0) os))) itself

  -- of the router's own the prefixes decide
  by_prefix : (p : Prefix) (x : Origination) → (x.router.0 == r.0) ≡ true →
      origination_cmp (origination r p) x ≡ prefix_cmp p x.prefix
  by_prefix p x at = ap (λ o. ordering_then o (prefix_cmp p x.prefix)) (tied r x.router r itself at)

  all_above : (p : Prefix) (os : List Origination) →
      AllByRecursion (λ o. origination_cmp (origination r p) o ≡ Less) os →
      AllByRecursion (λ q. prefix_cmp p q ≡ Less) (originated os)
  all_above p [] h = tt
  all_above p (x ∷ xs) h = by (x.router.0 == r.0) refl (all_above p xs h.1)
    where
      by : (b : Bool) → (x.router.0 == r.0) ≡ b → AllByRecursion (λ q. prefix_cmp p q ≡ Less) (originated xs) →
          AllByRecursion (λ q. prefix_cmp p q ≡ Less)
          (map (λ (o : Origination). o.prefix)
          (cond b (x ∷ filter (λ o. o.router.0 == r.0) xs) (filter (λ o. o.router.0 == r.0) xs)))
      by true at rest = (sym (by_prefix p x at) ∙ h.0, rest)
      by false at rest = rest

  -- ONE MORE

  put_first : (p : Prefix) (ps : List Prefix) → AllByRecursion (λ q. prefix_cmp p q ≡ Less) ps →
      insert_key prefix_cmp ps p ≡ p ∷ ps
  put_first p [] h = refl
  put_first p (q ∷ qs) h = ap (λ o. match_ordering o (p ∷ q ∷ qs) (q ∷ qs) (q ∷ insert_key prefix_cmp qs p)) h.0

  all_past : (k x : Origination) (xs : List Origination) → origination_cmp k x ≡ Less →
      AllByRecursion (λ y. origination_cmp x y ≡ Less) xs → AllByRecursion (λ y. origination_cmp k y ≡ Less) xs
  all_past k x [] less h = tt
  all_past k x (y ∷ ys) less h = (origination_total.trans k x y less h.0, all_past k x ys less h.1)

  pub put_one : (p : Prefix) (os : List Origination) → IsStrictlySortedBy origination_cmp os →
      originated (insert_key origination_cmp os (origination r p)) ≡ insert_key prefix_cmp (originated os) p
  unfolding IsStrictlySortedBy
  put_one p [] h = one_more p []
  put_one p (x ∷ xs) h = by (origination_cmp (origination r p) x) refl (put_one p xs h.1)
    where
      later : (b : Bool) → (x.router.0 == r.0) ≡ b → origination_cmp (origination r p) x ≡ Greater →
          originated (insert_key origination_cmp xs (origination r p)) ≡ insert_key prefix_cmp (originated xs) p
          → map (λ (o : Origination). o.prefix)
          (cond b (x ∷ filter (λ o. o.router.0 == r.0) (insert_key origination_cmp xs (origination r p)))
          (filter (λ o. o.router.0 == r.0) (insert_key origination_cmp xs (origination r p))))
          ≡ insert_key prefix_cmp (map (λ (o : Origination). o.prefix)
          (cond b (x ∷ filter (λ o. o.router.0 == r.0) xs) (filter (λ o. o.router.0 == r.0) xs))) p
      later true at is rest =
          ap (λ ps. x.prefix ∷ ps) rest
          ∙ ap (λ o. match_ordering o (p ∷ x.prefix ∷ originated xs) (x.prefix ∷ originated xs)
          (x.prefix ∷ insert_key prefix_cmp (originated xs) p)) (sym (sym (by_prefix p x at) ∙ is))
      later false at is rest = rest

      by : (o : Ordering) → origination_cmp (origination r p) x ≡ o →
          originated (insert_key origination_cmp xs (origination r p)) ≡ insert_key prefix_cmp (originated xs) p →
          originated (match_ordering o (origination r p ∷ x ∷ xs) (x ∷ xs)
          (x ∷ insert_key origination_cmp xs (origination r p))) ≡ insert_key prefix_cmp (originated (x ∷ xs)) p
      by Less is rest =
          one_more p (x ∷ xs)
          ∙ sym (put_first p (originated (x ∷ xs)) (all_above p (x ∷ xs) (is, all_past (origination r p) x xs is h.0)))
      by Equal is rest =
          subst (λ y. originated (y ∷ xs) ≡ insert_key prefix_cmp (originated (y ∷ xs)) p)
          (origination_exact (origination r p) x is)
          (one_more p xs
          ∙ ap (λ o. match_ordering o (p ∷ p ∷ originated xs) (p ∷ originated xs)
          (p ∷ insert_key prefix_cmp (originated xs) p)) (sym (tied_itself prefix_total p))
          ∙ ap (λ ps. insert_key prefix_cmp ps p) (sym (one_more p xs)))
      by Greater is rest = later (x.router.0 == r.0) refl is rest

  -- ONE LESS

  pub left_one : (p : Prefix) (os : List Origination) →
      originated (remove_key (is_at (origination_cmp (origination r p))) os)
      ≡ remove_key (is_at (prefix_cmp p)) (originated os)
  left_one p [] = refl
  left_one p (x ∷ xs) = by (is_at (origination_cmp (origination r p)) x) refl (left_one p xs)
    where
      left : List Origination → List Origination
      left os = remove_key (is_at (origination_cmp (origination r p))) os

      stays : (b : Bool) → (x.router.0 == r.0) ≡ b → is_at (origination_cmp (origination r p)) x ≡ false →
          originated (left xs) ≡ remove_key (is_at (prefix_cmp p)) (originated xs)
          → map (λ (o : Origination). o.prefix)
          (cond b (x ∷ filter (λ o. o.router.0 == r.0) (left xs)) (filter (λ o. o.router.0 == r.0) (left xs)))
          ≡ remove_key (is_at (prefix_cmp p))
          (map (λ (o : Origination). o.prefix)
          (cond b (x ∷ filter (λ o. o.router.0 == r.0) xs) (filter (λ o. o.router.0 == r.0) xs)))
      stays true at is rest =
          ap (λ ps. x.prefix ∷ ps) rest
          ∙ ap (λ t. cond t (originated xs) (x.prefix ∷ remove_key (is_at (prefix_cmp p)) (originated xs)))
          (sym (ap is_eq (sym (by_prefix p x at)) ∙ is))
      stays false at is rest = rest

      by : (t : Bool) → is_at (origination_cmp (origination r p)) x ≡ t →
          originated (left xs) ≡ remove_key (is_at (prefix_cmp p)) (originated xs) →
          originated (cond t xs (x ∷ left xs)) ≡ remove_key (is_at (prefix_cmp p)) (originated (x ∷ xs))
      by true is rest =
          subst (λ y. originated xs ≡ remove_key (is_at (prefix_cmp p)) (originated (y ∷ xs)))
          (origination_exact (origination r p) x (equal_when (origination_cmp (origination r p) x) is))
          (ap (λ o. cond (is_eq o) (originated xs) (p ∷ remove_key (is_at (prefix_cmp p)) (originated xs)))
          (sym (tied_itself prefix_total p))
          ∙ ap (remove_key (is_at (prefix_cmp p))) (sym (one_more p xs)))
      by false is rest = stays (x.router.0 == r.0) refl is rest

-- THE SITE

module _ (c : Configuration) (r : Addr) where
  -- a site has what its router originates
  has_origins : (f : List Prefix → List Prefix) →
      option_map (λ (s : SiteConf). record s { origins = f (origins_of c r) }) (router_site c r)
      ≡ option_map (λ (s : SiteConf). record s { origins = f s.origins }) (router_site c r)
  unfolding site_of
  has_origins f = by (is_virtual c r) (node_at c r)
    where
      by : (virtual : Bool) (o : Option Node) →
          option_map (λ (s : SiteConf). record s { origins = f (origins_of c r) }) (if virtual then None
          else option_map (site_at c r) o) ≡ option_map (λ (s : SiteConf). record s { origins = f s.origins })
          (if virtual then None else option_map (site_at c r) o)
      by true o = refl
      by false None = refl
      by false (Some n) = refl

module _ (c : Configuration) (r : Addr) (sorted : IsStrictlySortedBy origination_cmp c.origins) where
  with_origins_after : (e : Edit) (p : Prefix) → origins_of (edited c e) r ≡ origins_after e (origins_of c r) →
      router_site (edited c e) r ≡ option_map (λ (s : SiteConf). record s { origins = origins_of (edited c e) r })
      (router_site c r) → router_site (edited c e) r ≡ option_map (reoriginated e) (router_site c r)
  with_origins_after e p is alone =
      alone
      ∙ ap (λ ps. option_map (λ (s : SiteConf). record s { origins = ps }) (router_site c r)) is
      ∙ has_origins c r (origins_after e)

  -- the site of a router that comes to originate a prefix
  pub site_with_origin : (a : Addr) (p : Prefix) → r ≡ a →
      router_site (edited c (Origin a p)) r ≡ option_map (reoriginated (Origin a p)) (router_site c r)
  site_with_origin a p same =
      subst (λ x. router_site (edited c (Origin x p)) r ≡ option_map (reoriginated (Origin x p)) (router_site c r)) same
      (with_origins_after (Origin r p) p (put_one r p c.origins sorted) (origins_alone c (Origin r p) r p refl))

  -- and of one that ceases to
  pub site_without_origin : (a : Addr) (p : Prefix) → r ≡ a →
      router_site (edited c (NoOrigin a p)) r ≡ option_map (reoriginated (NoOrigin a p)) (router_site c r)
  site_without_origin a p same =
      subst (λ x. router_site (edited c (NoOrigin x p)) r ≡ option_map (reoriginated (NoOrigin x p)) (router_site c r))
      same
      (with_origins_after (NoOrigin r p) p (left_one r p c.origins) (origins_alone c (NoOrigin r p) r p refl))
