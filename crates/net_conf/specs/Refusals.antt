-- Refusals: their numbers, which are the order of the tests, and their names (own).
use Rattle.std.specs.Prelude.{ℕ, List, codes}
use Rattle.net_conf.specs.declared.refusal.Refusal.{Refusal}
use Rattle.net_conf.specs.declared.refusal.Refusal.TheVariants.{Syntax, NoRouter, RouterExists, SameRouter, BadEnd, VirtualInside, NoLink, LinkExists, NotLinked, NoSession, SessionExists, InternalOnly, RuleNotAllowed, OriginExists, NoOrigin, SessionDown, QueueEmpty, FirstAs, Limit, Memory}

abbrev pub number_of : Refusal → ℕ
number_of Syntax = 1
number_of NoRouter = 2
number_of RouterExists = 3
number_of SameRouter = 4
number_of BadEnd = 5
number_of VirtualInside = 6
number_of NoLink = 7
number_of LinkExists = 8
number_of NotLinked = 9
number_of NoSession = 10
number_of SessionExists = 11
number_of InternalOnly = 12
number_of RuleNotAllowed = 13
number_of OriginExists = 14
number_of NoOrigin = 15
number_of SessionDown = 16
number_of QueueEmpty = 17
number_of FirstAs = 18
number_of Limit = 19
number_of Memory = 20

abbrev pub name_of : Refusal → List ℕ
name_of Syntax = codes "syntax"
name_of NoRouter = codes "no-router"
name_of RouterExists = codes "router-exists"
name_of SameRouter = codes "same-router"
name_of BadEnd = codes "bad-end"
name_of VirtualInside = codes "virtual-inside"
name_of NoLink = codes "no-link"
name_of LinkExists = codes "link-exists"
name_of NotLinked = codes "not-linked"
name_of NoSession = codes "no-session"
name_of SessionExists = codes "session-exists"
name_of InternalOnly = codes "internal-only"
name_of RuleNotAllowed = codes "rule-not-allowed"
name_of OriginExists = codes "origin-exists"
name_of NoOrigin = codes "no-origin"
name_of SessionDown = codes "session-down"
name_of QueueEmpty = codes "queue-empty"
name_of FirstAs = codes "first-as"
name_of Limit = codes "limit"
name_of Memory = codes "memory"
