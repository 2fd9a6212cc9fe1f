-- A router stays one over an edit, and who becomes one was nobody.
use Rattle.std.proofs.Common.{◌≡◌, Bool, true, false, cond, not, List, [], ◌∷◌, Option, Some, None, option_map, is_some, unwrap_or, refl, sym, ap, ◌∙◌}
use Rattle.std.proofs.lemmas.Bool.{true≢false}
use Rattle.net_prefix.specs.declared.addr.Addr.{Addr}
use Rattle.path_attr.specs.declared.attr.Attr.{Attr}
use Rattle.net_conf.specs.declared.edit.Edit.{Edit}
use Rattle.net_conf.specs.declared.tables.Node.{Node}
use Rattle.net_conf.specs.Configuration.{Configuration, node_at, has_node, is_kind_virtual}
use Rattle.net_conf.specs.Configured.{IsConfigured}
use Rattle.net_conf.specs.Costs.{is_up}
use Rattle.net_conf.specs.Edits.{edited, refusal_of}
use Rattle.net_conf.specs.RouterSites.{router_site}
use Rattle.net_conf.specs.Sites.{site_at, site_of}
use Rattle.cell_engine.specs.Keeping.{kept_from}
use Rattle.cell_engine.proofs.Directions.{session_if_up}
use Rattle.net_conf.proofs.KeptTrees.{session_turned}
use Rattle.cell_engine.proofs.AcceptedEdits.{passes, node_kept, session_placed}
use Rattle.cell_engine.proofs.OverSessions.{all_pass}

-- the node is a router
abbrev pub is_router_node : Option Node → Bool
is_router_node None = false
is_router_node (Some n) = not (is_kind_virtual n.kind)

some_by : {A : Type 0} (virtual : Bool) (a : A) → is_some (cond {A = Option A} virtual None (Some a)) ≡ not virtual
some_by true a = refl
some_by false a = refl

router_by : (c : Configuration) (r : Addr) (o : Option Node) →
    is_some (cond (unwrap_or (option_map (λ n. is_kind_virtual n.kind) o) false) None (option_map (site_at c r) o))
    ≡ is_router_node o
router_by c r None = refl
router_by c r (Some n) = some_by (is_kind_virtual n.kind) (site_at c r n)

-- there is a site where there is a router
pub site_of_node : (c : Configuration) (r : Addr) → is_some (router_site c r) ≡ is_router_node (node_at c r)
unfolding site_of
site_of_node c r = router_by c r (node_at c r)

there_by : (o : Option Node) → is_router_node o ≡ true → is_some o ≡ true
there_by None is = is
there_by (Some n) is = refl

none_some : {A : Type 0} (o : Option A) → is_some o ≡ false → o ≡ None
none_some None is = refl
none_some (Some a) is = absurd (true≢false is)

module _ (c : Configuration) (e : Edit) (none : refusal_of c e ≡ None) where
  -- whatever is there is a router after the edit if it was before
  same_router : (r : Addr) → has_node c r ≡ true → is_some (router_site (edited c e) r) ≡ is_some (router_site c r)
  same_router r there = site_of_node (edited c e) r ∙ ap is_router_node (node_kept c e (passes c e none) r there)
      ∙ sym (site_of_node c r)

  -- who is no router then was none
  pub no_router_before : (r : Addr) → router_site (edited c e) r ≡ None → router_site c r ≡ None
  no_router_before r gone = by (is_some (router_site c r)) refl
    where
      by : (router : Bool) → is_some (router_site c r) ≡ router → router_site c r ≡ None
      by false is = none_some (router_site c r) is
      by true is = absurd (true≢false (sym is
          ∙ sym (same_router r (there_by (node_at c r) (sym (site_of_node c r) ∙ is))) ∙ ap is_some gone))

  -- who is none, and becomes one, was not there
  new_router : (r : Addr) → router_site c r ≡ None → is_some (router_site (edited c e) r) ≡ true → has_node c r ≡ false
  new_router r at router = by (has_node c r) refl
    where
      by : (there : Bool) → has_node c r ≡ there → has_node c r ≡ false
      by false is = is
      by true is = absurd (true≢false (sym router ∙ same_router r is ∙ ap is_some at))

  module _ (configured : IsConfigured c) where
    -- and so nothing came to it
    pub new_router_has_no_cell : (r : Addr) → router_site c r ≡ None → is_some (router_site (edited c e) r) ≡ true →
        (routes : List (Addr × Attr)) → kept_from c r routes ≡ routes → routes ≡ []
    new_router_has_no_cell r at router [] kept = refl
    new_router_has_no_cell r at router (x ∷ xs) kept =
        let up : is_up c x.0 r ≡ true = (all_pass (λ u. is_up c u r) (x ∷ xs) kept).0 in
        absurd (true≢false (sym (session_placed c configured r x.0 (session_turned c x.0 r (session_if_up c x.0 r up)))
        ∙ new_router r at router))
