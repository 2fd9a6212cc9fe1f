-- No public contract cites this file. The words after the first one of a command, by their shapes.
use Rattle.std.specs.Prelude.{ℕ, Bool, List, [], ◌∷◌}
use Rattle.std.specs.Fmt.{decimal}
use Rattle.igp_cost.specs.Metric.{IsMetric}
use Rattle.net_prefix.specs.declared.addr.Addr.{Addr}
use Rattle.net_prefix.specs.Address.{addr_text}
use Rattle.net_prefix.specs.Prefix.{Prefix, prefix_text}
use Rattle.route_policy.specs.declared.rule.Rule.{Rule}
use Rattle.net_conf.specs.declared.tables.PolicySide.{PolicySide}
use Rattle.sim_event.specs.Events.{IsAddress, IsAsNumber, IsPrefix}
use Rattle.command_text.specs.Words.{switch_word, comparison_word, side_word}
use Rattle.command_text.specs.Rules.{IsRule, rule_words}

abbrev pub address_words : Addr → List (List ℕ)
address_words a = addr_text a ∷ []

abbrev pub AreAddresses : Addr × Addr → Type 0
AreAddresses v = IsAddress v.0 × IsAddress v.1

abbrev pub addresses_words : Addr × Addr → List (List ℕ)
addresses_words v = addr_text v.0 ∷ addr_text v.1 ∷ []

abbrev pub IsNumberedAddress : Addr × ℕ → Type 0
IsNumberedAddress v = IsAddress v.0 × IsAsNumber v.1

abbrev pub numbered_words : Addr × ℕ → List (List ℕ)
numbered_words v = addr_text v.0 ∷ decimal v.1 ∷ []

abbrev pub AreEndsAndMetric : Addr × Addr × ℕ → Type 0
AreEndsAndMetric v = IsAddress v.0 × IsAddress v.1 × IsMetric v.2

abbrev pub metric_words : Addr × Addr × ℕ → List (List ℕ)
metric_words v = addr_text v.0 ∷ addr_text v.1 ∷ decimal v.2 ∷ []

abbrev pub IsAddressAndPrefix : Addr × Prefix → Type 0
IsAddressAndPrefix v = IsAddress v.0 × IsPrefix v.1

abbrev pub prefix_words : Addr × Prefix → List (List ℕ)
prefix_words v = addr_text v.0 ∷ prefix_text v.1 ∷ []

abbrev pub AreEnds : {X : Type 0} → Addr × Addr × X → Type 0
AreEnds v = IsAddress v.0 × IsAddress v.1

abbrev pub switch_words : Addr × Addr × Bool → List (List ℕ)
switch_words v = addr_text v.0 ∷ addr_text v.1 ∷ switch_word v.2 ∷ []

abbrev pub side_words : Addr × Addr × PolicySide → List (List ℕ)
side_words v = addr_text v.0 ∷ addr_text v.1 ∷ side_word v.2 ∷ []

abbrev pub IsAddressAndComparison : Addr × Bool → Type 0
IsAddressAndComparison v = IsAddress v.0

abbrev pub comparison_words : Addr × Bool → List (List ℕ)
comparison_words v = addr_text v.0 ∷ comparison_word v.1 ∷ []

abbrev pub IsAddedRule : Addr × Addr × PolicySide × Rule → Type 0
IsAddedRule v = IsAddress v.0 × IsAddress v.1 × IsRule v.3

abbrev pub added_words : Addr × Addr × PolicySide × Rule → List (List ℕ)
added_words v = addr_text v.0 ∷ addr_text v.1 ∷ side_word v.2 ∷ rule_words v.3
