-- The prefix goes into the set of its router, and so into the list of all.
use Rattle.std.proofs.Common.{◌≡◌, ◌∙◌, Ok, Err, OnOk, OnErr, ap, sym, subst}
use Rattle.std.specs.List.Sorted.{IsStrictlySortedBy}
use Rattle.std.specs.BTreeMap.{insert_entry}
use Rattle.std.specs.BTreeSet.{insert_key}
use Rattle.net_prefix.specs.Address.{addr_cmp}
use Rattle.net_prefix.specs.Prefix.{prefix_cmp}
use Rattle.net_conf.specs.Configuration.{origination_cmp}
use Rattle.net_conf.specs.Originations.{originations_in, prefixes_at}
use Rattle.net_conf.proofs.ByRouter.{put_prefix, put_in_order}
use Rattle.net_conf.proofs.Originated.{origination_total}
use Rattle.net_conf.proofs.tables.originations.Originations.insert.Goals as goal

pub invariant_of-self : goal.invariant_of-self
invariant_of-self c =
    let es = c.self.inside.routers in
    let o = c.args.origination in
    let new : c.insert.new.self ≡ insert_key prefix_cmp (prefixes_at es o.router) o.prefix = c.in_ok-insert.ensures.ok
    ∙ ap (λ ps. insert_key prefix_cmp ps o.prefix) c.in_ok-prefixes.ensures.set in
    let all : originations_in (insert_entry addr_cmp es o.router c.insert.new.self)
    ≡ insert_key origination_cmp (originations_in es) o =
    ap (λ ps. originations_in (insert_entry addr_cmp es o.router ps)) new
    ∙ put_prefix o.router es c.in_ok-prefixes.ensures.ordered o.prefix in
    elim c.put.result as (λ x. OnOk x (c.put.new.self ≡ insert_entry addr_cmp es o.router c.insert.new.self) →
    OnErr x (c.put.new.self ≡ es) → IsStrictlySortedBy origination_cmp (originations_in c.put.new.self)) [
      | Ok u ↦ λ ok err. subst (IsStrictlySortedBy origination_cmp) (sym (ap originations_in ok ∙ all))
          (put_in_order origination_cmp origination_total o (originations_in es) c.self.invariant)
      | Err e ↦ λ ok err. subst (λ x. IsStrictlySortedBy origination_cmp (originations_in x)) (sym err) c.self.invariant
    ] c.put.ensures.ok c.put.ensures.err

pub returns-clause-ok : goal.returns-clause-ok
returns-clause-ok c =
    let es = c.self.inside.routers in
    let o = c.args.origination in
    let new : c.insert.new.self ≡ insert_key prefix_cmp (prefixes_at es o.router) o.prefix = c.in_ok-insert.ensures.ok
    ∙ ap (λ ps. insert_key prefix_cmp ps o.prefix) c.in_ok-prefixes.ensures.set in
    let all : originations_in (insert_entry addr_cmp es o.router c.insert.new.self)
    ≡ insert_key origination_cmp (originations_in es) o =
    ap (λ ps. originations_in (insert_entry addr_cmp es o.router ps)) new
    ∙ put_prefix o.router es c.in_ok-prefixes.ensures.ordered o.prefix in
    elim c.put.result as (λ x. OnOk x (c.put.new.self ≡ insert_entry addr_cmp es o.router c.insert.new.self) →
    OnOk x (originations_in c.put.new.self ≡ insert_key origination_cmp c.args.self.now o)) [
      | Ok u ↦ λ ok. ap originations_in ok ∙ all ∙ ap (λ os. insert_key origination_cmp os o) c.self.view_is
      | Err e ↦ λ ok. tt
    ] c.put.ensures.ok
