-- Policies: ordered lists of rules, of which the first that matches decides. What a rule can ask, and what it can set,
-- is this project's choice (own): RFC 4271, 9.1.1 and 9.1.3, leave policies to the router.
use Rattle.std.specs.Prelude.{◌≡◌, Bool, true, List, find, Some, None, option_map, unwrap_or, IsTrue}
use Rattle.net_prefix.specs.Prefix.{Prefix, Covers, same_prefix}
use Rattle.net_prefix.specs.Tests.{covers}
use Rattle.path_attr.specs.declared.attr.Attr.{Attr}
use Rattle.path_attr.specs.Number.{same_number}
use Rattle.path_attr.specs.Path.{holds, neighbour}
use Rattle.path_attr.specs.Communities.{carries}
use Rattle.route_policy.specs.declared.rule.Match.{Match}
use Rattle.route_policy.specs.declared.rule.Match.TheVariants.{Any, Is, Under, Path, First, Comm}
use Rattle.route_policy.specs.declared.rule.Settings.{Settings}
use Rattle.route_policy.specs.declared.rule.Action.{Action}
use Rattle.route_policy.specs.declared.rule.Action.TheVariants.{Permit}
use Rattle.route_policy.specs.declared.rule.Rule.{Rule}

-- what a rule asks of a route to prefix p with attributes a
abbrev pub Meets : Match → Prefix → Attr → Type 0
-- nothing
Meets Any p a = Unit {0}
-- it goes to this very prefix
Meets (Is q) p a = q ≡ p
-- it goes to this prefix, or to a part of it
Meets (Under q) p a = Covers q p
-- the AS stands in its path, in a sequence or in a set
Meets (Path n) p a = IsTrue (holds n a.path)
-- the AS is its neighbouring AS (RFC 4271, 9.1.2.2 c)
Meets (First n) p a = neighbour a.path ≡ Some n
-- it carries the community (RFC 1997)
Meets (Comm n) p a = IsTrue (carries n a.comms)

-- whether a route to the prefix with these attributes meets it
abbrev pub matches : Match → Prefix → Attr → Bool
matches Any p a = true
matches (Is q) p a = same_prefix q p
matches (Under q) p a = covers q p
matches (Path n) p a = holds n a.path
matches (First n) p a = same_number (neighbour a.path) (Some n)
matches (Comm n) p a = carries n a.comms

-- nothing is set
abbrev pub no_settings : Settings
no_settings = record { pref = None; med = None; prepend = None; add = None }

-- a permit without settings
abbrev pub plain_permit : Action
plain_permit = Permit no_settings

-- what becomes of the route: the action of the first rule that matches it, and a plain permit where none does (own)
unfoldable pub judged : List Rule → Prefix → Attr → Action
judged rules p a = unwrap_or (option_map (λ r. r.act) (find (λ r. matches r.cond p a) rules)) plain_permit
