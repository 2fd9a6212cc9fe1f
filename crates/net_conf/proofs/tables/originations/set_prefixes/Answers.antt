-- A router without prefixes is left out of the list either way.
use Rattle.std.proofs.Common.{◌≡◌, ◌∙◌, [], refl, Ok, Err, OnOk, ap, sym}
use Rattle.std.specs.Map.{remove_entry}
use Rattle.std.specs.BTreeMap.{insert_entry, is_at}
use Rattle.net_prefix.specs.Address.{addr_cmp}
use Rattle.net_conf.specs.Originations.{originations_in}
use Rattle.net_conf.proofs.ByRouter.{with_none}
use Rattle.net_conf.proofs.tables.originations.set_prefixes.Goals as goal

pub returns-then-is_empty-clause-ok : goal.returns-then-is_empty-clause-ok
returns-then-is_empty-clause-ok c =
    let es = c.args.routers.now in
    let r = c.args.router in
    let none : c.args.prefixes ≡ [] = c.if-is_empty.ensures.0 refl in
    elim c.take_out.result as (λ x. OnOk x (c.take_out.new.self ≡ remove_entry (is_at (addr_cmp r)) es) →
    OnOk x (originations_in c.take_out.new.self ≡ originations_in (insert_entry addr_cmp es r c.args.prefixes))) [
      | Ok u ↦ λ ok. ap originations_in ok ∙ with_none r es c.requires
          ∙ ap (λ ps. originations_in (insert_entry addr_cmp es r ps)) (sym none)
      | Err e ↦ λ ok. tt
    ] c.take_out.ensures.ok
