-- Where settings and sessions stay, a cost that becomes another is advertised to nobody.
use Rattle.std.proofs.Common.{◌≡◌, true, List, [], Option, Some, None, refl, sym, ap, subst, ◌∙◌}
use Rattle.net_prefix.specs.Prefix.{Prefix}
use Rattle.igp_cost.specs.Trees.{Reached}
use Rattle.net_conf.specs.Facts.{same_facts, with_facts_of}
use Rattle.net_conf.specs.FactLaws.{facts_exact}
use Rattle.net_conf.specs.declared.site.SiteConf.{SiteConf}
use Rattle.route_select.specs.declared.candidate.Candidate.{Candidate}
use Rattle.reflect_out.specs.Advertising.{advert}
use Rattle.cell_engine.specs.Cells.{sends_of}
use Rattle.cell_engine.specs.Updates.{costless}
use Rattle.cell_engine.proofs.StandingsAfter.{ArePeersInOrder}
use Rattle.cell_engine.proofs.Unchanged.{nothing_sent}

module _ (s : SiteConf) (os : List Prefix) (k : Reached) (p : Prefix) where
  -- neither the costs of the site nor that of the choice are advertised
  costs_are_kept : (had has : Option Candidate) → sends_of s (with_facts_of s os k) p had has
      ≡ sends_of s s p (costless had) (costless has)
  unfolding advert
  costs_are_kept None None = refl
  costs_are_kept None (Some c) = refl
  costs_are_kept (Some b) None = refl
  costs_are_kept (Some b) (Some c) = refl

  silent_of : (had has : Option Candidate) → costless had ≡ costless has → ArePeersInOrder s.sessions →
      sends_of s (with_facts_of s os k) p had has ≡ []
  silent_of had has same ordered =
      costs_are_kept had has
      ∙ ap (sends_of s s p (costless had)) (sym same)
      ∙ nothing_sent s p (costless had) ordered

-- where the best routes differ in their costs alone, nothing is sent
pub costs_are_silent : (s t : SiteConf) (p : Prefix) (had has : Option Candidate) → same_facts s t ≡ true →
    costless had ≡ costless has → ArePeersInOrder t.sessions → sends_of s t p had has ≡ []
costs_are_silent s t p had has alike same ordered = by t ordered (facts_exact s t alike)
  where
    by : (u : SiteConf) → ArePeersInOrder u.sessions → u ≡ with_facts_of s t.origins t.costs →
        sends_of s u p had has ≡ []
    by u order is =
        ap (λ x. sends_of s x p had has) is
        ∙ silent_of s t.origins t.costs p had has same (subst (λ x. ArePeersInOrder x.sessions) is order)
