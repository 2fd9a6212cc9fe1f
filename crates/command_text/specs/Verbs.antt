-- No public contract cites this file. The first words of the commands that take no memory, by what follows them.
use Rattle.std.specs.Prelude.{ℕ, List, codes}
use Rattle.command_text.specs.declared.verb.Verb.{Verb}
use Rattle.command_text.specs.declared.verb.Verb.TheVariants.{Node, Link as LinkOf, Pair, Switch, Prefix, Rule, Clear, Med, Routes, Quiet}
use Rattle.command_text.specs.declared.verb.NodeVerb.{NodeVerb}
use Rattle.command_text.specs.declared.verb.NodeVerb.TheVariants.{Router, Virtual}
use Rattle.command_text.specs.declared.verb.LinkVerb.{LinkVerb}
use Rattle.command_text.specs.declared.verb.LinkVerb.TheVariants.{Link, Metric}
use Rattle.command_text.specs.declared.verb.PairVerb.{PairVerb}
use Rattle.command_text.specs.declared.verb.PairVerb.TheVariants.{Fail, Mend, Join, Stop, Start, Cluster, Deliver, In, Out, Queue, Cost, Trace}
use Rattle.command_text.specs.declared.verb.SwitchVerb.{SwitchVerb}
use Rattle.command_text.specs.declared.verb.SwitchVerb.TheVariants.{Client, OwnNext}
use Rattle.command_text.specs.declared.verb.PrefixVerb.{PrefixVerb}
use Rattle.command_text.specs.declared.verb.PrefixVerb.TheVariants.{Origin, NoOrigin, Best, Why}

abbrev pub node_word : NodeVerb → List ℕ
node_word Router = codes "router"
node_word Virtual = codes "virtual"

abbrev pub link_word : LinkVerb → List ℕ
link_word Link = codes "link"
link_word Metric = codes "metric"

abbrev pub pair_word : PairVerb → List ℕ
pair_word Fail = codes "fail"
pair_word Mend = codes "mend"
pair_word Join = codes "join"
pair_word Stop = codes "stop"
pair_word Start = codes "start"
pair_word Cluster = codes "cluster"
pair_word Deliver = codes "deliver"
pair_word In = codes "in"
pair_word Out = codes "out"
pair_word Queue = codes "queue"
pair_word Cost = codes "cost"
pair_word Trace = codes "trace"

abbrev pub setting_word : SwitchVerb → List ℕ
setting_word Client = codes "client"
setting_word OwnNext = codes "self"

abbrev pub prefix_word : PrefixVerb → List ℕ
prefix_word Origin = codes "origin"
prefix_word NoOrigin = codes "noorigin"
prefix_word Best = codes "best"
prefix_word Why = codes "why"

abbrev pub verb_word : Verb → List ℕ
verb_word (Node v) = node_word v
verb_word (LinkOf v) = link_word v
verb_word (Pair v) = pair_word v
verb_word (Switch v) = setting_word v
verb_word (Prefix v) = prefix_word v
verb_word Rule = codes "rule"
verb_word Clear = codes "clear"
verb_word Med = codes "med"
verb_word Routes = codes "routes"
verb_word Quiet = codes "quiet"
