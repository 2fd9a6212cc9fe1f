-- The prefix leaves the set of its router, and so the list of all.
use Rattle.std.proofs.Common.{◌≡◌, ◌∙◌, Ok, Err, OnOk, OnErr, ap, sym, subst}
use Rattle.std.specs.List.Sorted.{IsStrictlySortedBy}
use Rattle.std.specs.Set.{remove_key}
use Rattle.std.specs.BTreeMap.{insert_entry, is_at}
use Rattle.net_prefix.specs.Address.{addr_cmp}
use Rattle.net_prefix.specs.Prefix.{prefix_cmp}
use Rattle.net_conf.specs.Configuration.{origination_cmp}
use Rattle.net_conf.specs.Originations.{originations_in, prefixes_at}
use Rattle.net_conf.proofs.ByRouter.{left_prefix, left_in_order}
use Rattle.net_conf.proofs.Originated.{origination_total}
use Rattle.net_conf.proofs.tables.originations.Originations.remove.Goals as goal

pub invariant_of-self : goal.invariant_of-self
invariant_of-self c =
    let es = c.self.inside.routers in
    let o = c.args.origination in
    let new : c.remove.new.self ≡ remove_key (is_at (prefix_cmp o.prefix)) (prefixes_at es o.router) =
    c.in_ok-remove.ensures.ok ∙ ap (remove_key (is_at (prefix_cmp o.prefix))) c.in_ok-prefixes.ensures.set in
    let all : originations_in (insert_entry addr_cmp es o.router c.remove.new.self)
    ≡ remove_key (is_at (origination_cmp o)) (originations_in es) =
    ap (λ ps. originations_in (insert_entry addr_cmp es o.router ps)) new
    ∙ left_prefix o.router es c.in_ok-prefixes.ensures.ordered o.prefix in
    elim c.set_prefixes.result as (λ x.
    OnOk x (originations_in c.set_prefixes.new.routers
    ≡ originations_in (insert_entry addr_cmp es o.router c.remove.new.self)) →
    OnErr x (c.set_prefixes.new.routers ≡ es) →
    IsStrictlySortedBy origination_cmp (originations_in c.set_prefixes.new.routers)) [
      | Ok u ↦ λ ok err. subst (IsStrictlySortedBy origination_cmp) (sym (ok ∙ all))
          (left_in_order origination_cmp origination_total (is_at (origination_cmp o))
          (originations_in es) c.self.invariant)
      | Err e ↦ λ ok err. subst (λ x. IsStrictlySortedBy origination_cmp (originations_in x)) (sym err) c.self.invariant
    ] c.set_prefixes.ensures.ok c.set_prefixes.ensures.err

pub returns-clause-ok : goal.returns-clause-ok
returns-clause-ok c =
    let es = c.self.inside.routers in
    let o = c.args.origination in
    let new : c.remove.new.self ≡ remove_key (is_at (prefix_cmp o.prefix)) (prefixes_at es o.router) =
    c.in_ok-remove.ensures.ok ∙ ap (remove_key (is_at (prefix_cmp o.prefix))) c.in_ok-prefixes.ensures.set in
    let all : originations_in (insert_entry addr_cmp es o.router c.remove.new.self)
    ≡ remove_key (is_at (origination_cmp o)) (originations_in es) =
    ap (λ ps. originations_in (insert_entry addr_cmp es o.router ps)) new
    ∙ left_prefix o.router es c.in_ok-prefixes.ensures.ordered o.prefix in
    elim c.set_prefixes.result as (λ x.
    OnOk x (originations_in c.set_prefixes.new.routers
    ≡ originations_in (insert_entry addr_cmp es o.router c.remove.new.self)) →
    OnOk x (originations_in c.set_prefixes.new.routers ≡ remove_key (is_at (origination_cmp o)) c.args.self.now)) [
      | Ok u ↦ λ ok. ok ∙ all ∙ ap (remove_key (is_at (origination_cmp o))) c.self.view_is
      | Err e ↦ λ ok. tt
    ] c.set_prefixes.ensures.ok
