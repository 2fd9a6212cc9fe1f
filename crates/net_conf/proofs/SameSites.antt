-- Sites are the same where their facts, their originated prefixes and their costs are.
use Rattle.std.proofs.Common.{◌≡◌, Bool, true, false, ◌&&◌, ◌==◌, refl, sym, ap, ◌∙◌, subst}
use Rattle.std.proofs.lemmas.Bool.{true≢false}
use Rattle.std.specs.Cmp.{unsigned_Decides, first_so, second_so}
use Rattle.std.specs.Cmp.Lexicographic.{pointwise}
use Rattle.net_prefix.specs.Prefix.{Prefix, same_prefix}
use Rattle.path_attr.specs.Sameness.{IsExact, lists_exact}
use Rattle.net_conf.specs.declared.site.SiteConf.{SiteConf}
use Rattle.net_conf.specs.Facts.{same_facts, with_facts_of}
use Rattle.net_conf.specs.FactLaws.{facts_exact, facts_itself}

both_true : (p q : Bool) → p ≡ true → q ≡ true → (p && q) ≡ true
both_true p q h g = λ i. h i && g i

prefix_true : (p q : Prefix) → same_prefix p q ≡ true → p ≡ q
prefix_true p q h =
    let address = (unsigned_Decides p.addr.0 q.addr.0).0 (first_so (p.addr.0 == q.addr.0) (p.len == q.len) h) in
    let length = (unsigned_Decides p.len q.len).0 (second_so (p.addr.0 == q.addr.0) (p.len == q.len) h) in
    λ i. record { addr = record { 0 = address i }; len = length i }

prefix_itself : (p : Prefix) → same_prefix p p ≡ true
prefix_itself p = both_true _ _ ((unsigned_Decides p.addr.0 p.addr.0).1 refl) ((unsigned_Decides p.len p.len).1 refl)

prefixes_exact : IsExact same_prefix
prefixes_exact p q = (prefix_true p q, λ e. subst (λ x. same_prefix p x ≡ true) e (prefix_itself p))

-- other facts are of another site
pub other_facts : (s t : SiteConf) → same_facts s t ≡ false → s ≡ t → ⊥
other_facts s t differ same =
    true≢false (sym (facts_itself s s.origins s.costs) ∙ ap (same_facts s) same ∙ differ)

-- so are other originated prefixes
pub other_origins : (s t : SiteConf) → pointwise same_prefix s.origins t.origins ≡ false → s ≡ t → ⊥
other_origins s t differ same =
    true≢false (sym ((lists_exact prefixes_exact s.origins s.origins).1 refl)
    ∙ ap (λ (x : SiteConf). pointwise same_prefix s.origins x.origins) same ∙ differ)

-- and sites that agree in these are the same where their costs are
pub same_but_costs : (s t : SiteConf) → same_facts s t ≡ true → pointwise same_prefix s.origins t.origins ≡ true →
    s.costs ≡ t.costs → s ≡ t
same_but_costs s t facts origins costs =
    let is = (lists_exact prefixes_exact s.origins t.origins).0 origins in
    (λ i. with_facts_of s (is i) (costs i)) ∙ sym (facts_exact s t facts)
