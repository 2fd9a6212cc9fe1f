use Rattle.std.proofs.Common.{◌≡◌, ◌∙◌, [], option_copied, ap, sym}
use Rattle.std.specs.List.{list_any}
use Rattle.std.specs.Option.{unwrap_or}
use Rattle.std.specs.BTreeMap.{is_at}
use Rattle.net_prefix.specs.Prefix.{prefix_cmp}
use Rattle.net_conf.specs.Configuration.{origination_cmp}
use Rattle.net_conf.specs.Originations.{prefixes_at}
use Rattle.net_conf.proofs.ByRouter.{found_prefix}
use Rattle.net_conf.proofs.tables.originations.Originations.contains.Goals as goal

pub returns-in-Some : goal.returns-in-Some
returns-in-Some c =
    let es = c.self.inside.routers in
    let o = c.args.origination in
    let own : c.in-Some.prefixes.now ≡ prefixes_at es o.router =
    ap (λ x. unwrap_or (option_copied x) []) (sym c.in-Some.is) ∙ ap (λ x. unwrap_or x []) c.get.ensures in
    c.contains.ensures
    ∙ ap (list_any (is_at (prefix_cmp o.prefix))) own
    ∙ found_prefix o.router es c.order.ensures o.prefix
    ∙ ap (list_any (is_at (origination_cmp o))) c.self.view_is

pub returns-in-None : goal.returns-in-None
returns-in-None c =
    let es = c.self.inside.routers in
    let o = c.args.origination in
    let own : [] ≡ prefixes_at es o.router = ap (λ x. unwrap_or (option_copied x) []) (sym c.in-None.is)
    ∙ ap (λ x. unwrap_or x []) c.get.ensures in
    ap (list_any (is_at (prefix_cmp o.prefix))) own
    ∙ found_prefix o.router es c.order.ensures o.prefix
    ∙ ap (list_any (is_at (origination_cmp o))) c.self.view_is
