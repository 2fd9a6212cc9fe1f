use Rattle.std.proofs.Common.{sym, ap, ◌∙◌}
use Rattle.std.proofs.lemmas.Bool.{true≢false}
use Rattle.net_conf.specs.declared.site.SiteConf.{SiteConf}
use Rattle.net_conf.proofs.SameSites.{other_facts, other_origins, same_but_costs}
use Rattle.net_conf.proofs.site.SiteConf.is_same.Goals as goal

pub returns-then-not-has_same_facts : goal.returns-then-not-has_same_facts
returns-then-not-has_same_facts c = (
  λ never. absurd (true≢false (sym never)),
  λ same. absurd (other_facts c.args.self.now c.args.other.now (sym c.has_same_facts.ensures
      ∙ c.if-not-has_same_facts.true) same),
)

pub returns-then-eq : goal.returns-then-eq
returns-then-eq c = (
  λ yes. same_but_costs c.args.self.now c.args.other.now (sym c.has_same_facts.ensures ∙ c.if-not-has_same_facts.false)
      (sym c.eq.ensures ∙ c.if-eq.true) (c.is_same.ensures.0 yes),
  λ same. c.is_same.ensures.1 (ap (λ (s : SiteConf). s.costs) same),
)

pub returns-else-eq : goal.returns-else-eq
returns-else-eq c = (
  λ never. absurd (true≢false (sym never)),
  λ same. absurd (other_origins c.args.self.now c.args.other.now (sym c.eq.ensures ∙ c.if-eq.false) same),
)
