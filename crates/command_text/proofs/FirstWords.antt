-- The first word of an event tells its shape, and so which words follow.
use Rattle.std.proofs.Common.{◌≡◌, ℕ, Bool, List, [], ◌∷◌, cond, false, codes, refl, sym, subst}
use Rattle.std.specs.List.{list_any}
use Rattle.std.specs.Str.{bytes_eq}
use Rattle.std.proofs.lemmas.Bool.{both_ways}
use Rattle.std.proofs.lemmas.Slice.Eq.{bytes_eq-Decides}
use Rattle.net_prefix.specs.Address.{addr_text}
use Rattle.net_conf.specs.declared.edit.Edit.TheVariants.{Router, Virtual, Link, Metric, Fail, Mend, Join, Stop, Start, Client, OwnNext, Cluster, MedAlways, Rule as AddRule, Clear, Origin, NoOrigin}
use Rattle.sim_event.specs.declared.event.Event.{Event}
use Rattle.sim_event.specs.declared.event.Event.TheVariants.{Edit as AnEdit, Feed as AFeed, Deliver, Ask as AnAsk}
use Rattle.sim_event.specs.declared.event.Ask.TheVariants.{Routes, Best, Why, In, Out, Queue, Quiet, Cost, Trace}
use Rattle.sim_event.specs.declared.event.Feed.{Feed}
use Rattle.sim_event.specs.Events.{IsAddress, IsEvent, IsNews}
use Rattle.command_text.specs.declared.verb.Verb.{Verb}
use Rattle.command_text.specs.declared.verb.Verb.TheVariants as verb
use Rattle.command_text.specs.declared.verb.NodeVerb.{NodeVerb}
use Rattle.command_text.specs.declared.verb.NodeVerb.TheVariants as node
use Rattle.command_text.specs.declared.verb.LinkVerb.{LinkVerb}
use Rattle.command_text.specs.declared.verb.LinkVerb.TheVariants as link
use Rattle.command_text.specs.declared.verb.PairVerb.{PairVerb}
use Rattle.command_text.specs.declared.verb.PairVerb.TheVariants as pair
use Rattle.command_text.specs.declared.verb.SwitchVerb.{SwitchVerb}
use Rattle.command_text.specs.declared.verb.SwitchVerb.TheVariants as switch
use Rattle.command_text.specs.declared.verb.PrefixVerb.{PrefixVerb}
use Rattle.command_text.specs.declared.verb.PrefixVerb.TheVariants as prefix
use Rattle.command_text.specs.Words.{words_of, news_words}
use Rattle.command_text.specs.Verbs.{verb_word, node_word, link_word, pair_word, setting_word, prefix_word}
use Rattle.command_text.specs.Arguments.{AreAddresses, addresses_words, IsNumberedAddress, numbered_words, AreEndsAndMetric, metric_words, IsAddressAndPrefix, prefix_words, AreEnds, switch_words, side_words, IsAddressAndComparison, comparison_words, IsAddedRule, added_words}

-- two words that a test tells apart
pub differ : (a b : List ℕ) → bytes_eq a b ≡ false → a ≡ b → ⊥
differ a b other same = both_ways (bytes_eq a b) other ((bytes_eq-Decides a b).1 same)

abbrev head_word : List (List ℕ) → List ℕ
head_word [] = []
head_word (word ∷ words) = word

abbrev more_words : List (List ℕ) → List (List ℕ)
more_words [] = []
more_words (word ∷ words) = words

-- words of this shape, with values in their ranges
abbrev pub Shaped : {X : Type 0} → (X → Type 0) → (X → List (List ℕ)) → List (List ℕ) → Type 0
Shaped {X} IsIn spelling words = (x : X) × IsIn x × (words ≡ spelling x)

-- what follows the first word of a feed
abbrev pub IsFeed : Feed → Type 0
IsFeed f = IsAddress f.from × IsAddress f.to × IsNews f.news

abbrev pub feed_words : Feed → List (List ℕ)
feed_words f = addr_text f.from ∷ addr_text f.to ∷ news_words f.news

-- the shapes of commands
data Shape : Type 0 where
  nodes : Shape
  links : Shape
  pairs : Shape
  switches : Shape
  prefixes : Shape
  rules : Shape
  clears : Shape
  comparisons : Shape
  feeds : Shape
  others : Shape

-- what follows the first word
Follows : Shape → List (List ℕ) → Type 0
Follows nodes words = Shaped IsNumberedAddress numbered_words words
Follows links words = Shaped AreEndsAndMetric metric_words words
Follows pairs words = Shaped AreAddresses addresses_words words
Follows switches words = Shaped AreEnds switch_words words
Follows prefixes words = Shaped IsAddressAndPrefix prefix_words words
Follows rules words = Shaped IsAddedRule added_words words
Follows clears words = Shaped AreEnds side_words words
Follows comparisons words = Shaped IsAddressAndComparison comparison_words words
Follows feeds words = Shaped IsFeed feed_words words
Follows others words = Unit {0}

is_one : List (List ℕ) → List ℕ → Bool
is_one words word = list_any (bytes_eq word) words

shape_of : List ℕ → Shape
shape_of word =
    cond (is_one (codes "router" ∷ codes "virtual" ∷ []) word) nodes
    (cond (is_one (codes "link" ∷ codes "metric" ∷ []) word) links
    (cond (is_one (codes "client" ∷ codes "self" ∷ []) word) switches
    (cond (is_one (codes "origin" ∷ codes "noorigin" ∷ codes "best" ∷ codes "why" ∷ []) word) prefixes
    (cond (is_one (codes "rule" ∷ []) word) rules
    (cond (is_one (codes "clear" ∷ []) word) clears
    (cond (is_one (codes "med" ∷ []) word) comparisons
    (cond (is_one (codes "feed" ∷ []) word) feeds
    (cond (is_one (codes "routes" ∷ codes "quiet" ∷ []) word) others pairs))))))))

-- the words of an event
event_follows : (e : Event) → IsEvent e → Follows (shape_of (head_word (words_of e))) (more_words (words_of e))
unfolding Follows shape_of is_one
event_follows (AnEdit (Router a n)) h = ((a, n), h, refl)
event_follows (AnEdit (Virtual a n)) h = ((a, n), h, refl)
event_follows (AnEdit (Link a b m)) h = ((a, b, m), h, refl)
event_follows (AnEdit (Metric a b m)) h = ((a, b, m), h, refl)
event_follows (AnEdit (Fail a b)) h = ((a, b), h, refl)
event_follows (AnEdit (Mend a b)) h = ((a, b), h, refl)
event_follows (AnEdit (Join a b)) h = ((a, b), h, refl)
event_follows (AnEdit (Stop a b)) h = ((a, b), h, refl)
event_follows (AnEdit (Start a b)) h = ((a, b), h, refl)
event_follows (AnEdit (Client a b on)) h = ((a, b, on), h, refl)
event_follows (AnEdit (OwnNext a b on)) h = ((a, b, on), h, refl)
event_follows (AnEdit (Cluster a id)) h = ((a, id), h, refl)
event_follows (AnEdit (MedAlways a always)) h = ((a, always), h, refl)
event_follows (AnEdit (AddRule a b side rule)) h = ((a, b, side, rule), (h.0, h.1, (h.2, h.3)), refl)
event_follows (AnEdit (Clear a b side)) h = ((a, b, side), h, refl)
event_follows (AnEdit (Origin a p)) h = ((a, p), h, refl)
event_follows (AnEdit (NoOrigin a p)) h = ((a, p), h, refl)
event_follows (AFeed f) h = (f, h, refl)
event_follows (Deliver a b) h = ((a, b), h, refl)
event_follows (AnAsk (Routes r)) h = tt
event_follows (AnAsk (Best r p)) h = ((r, p), h, refl)
event_follows (AnAsk (Why r p)) h = ((r, p), h, refl)
event_follows (AnAsk (In a b)) h = ((a, b), h, refl)
event_follows (AnAsk (Out a b)) h = ((a, b), h, refl)
event_follows (AnAsk (Queue a b)) h = ((a, b), h, refl)
event_follows (AnAsk Quiet) h = tt
event_follows (AnAsk (Cost r x)) h = ((r, x), h, refl)
event_follows (AnAsk (Trace r d)) h = ((r, d), h, refl)

follows : (word : List ℕ) (words : List (List ℕ)) (e : Event) → IsEvent e → word ∷ words ≡ words_of e →
    Follows (shape_of word) words
follows word words e h s = subst (λ ws. Follows (shape_of (head_word ws)) (more_words ws)) (sym s) (event_follows e h)

pub node_follows : (v : NodeVerb) (words : List (List ℕ)) (e : Event) → IsEvent e → node_word v ∷ words ≡ words_of e →
    Shaped IsNumberedAddress numbered_words words
unfolding Follows shape_of is_one
node_follows node.Router = follows (codes "router")
node_follows node.Virtual = follows (codes "virtual")

pub link_follows : (v : LinkVerb) (words : List (List ℕ)) (e : Event) → IsEvent e → link_word v ∷ words ≡ words_of e →
    Shaped AreEndsAndMetric metric_words words
unfolding Follows shape_of is_one
link_follows link.Link = follows (codes "link")
link_follows link.Metric = follows (codes "metric")

pub pair_follows : (v : PairVerb) (words : List (List ℕ)) (e : Event) → IsEvent e → pair_word v ∷ words ≡ words_of e →
    Shaped AreAddresses addresses_words words
unfolding Follows shape_of is_one
pair_follows pair.Fail = follows (codes "fail")
pair_follows v = follows (pair_word v)

pub switch_follows : (v : SwitchVerb) (words : List (List ℕ)) (e : Event) → IsEvent e →
    setting_word v ∷ words ≡ words_of e → Shaped AreEnds switch_words words
unfolding Follows shape_of is_one
switch_follows switch.Client = follows (codes "client")
switch_follows switch.OwnNext = follows (codes "self")

pub prefix_follows : (v : PrefixVerb) (words : List (List ℕ)) (e : Event) → IsEvent e →
    prefix_word v ∷ words ≡ words_of e → Shaped IsAddressAndPrefix prefix_words words
unfolding Follows shape_of is_one
prefix_follows prefix.Origin = follows (codes "origin")
prefix_follows v = follows (prefix_word v)

pub rule_follows : (words : List (List ℕ)) (e : Event) → IsEvent e → codes "rule" ∷ words ≡ words_of e →
    Shaped IsAddedRule added_words words
unfolding Follows shape_of is_one
rule_follows = follows (codes "rule")

pub clear_follows : (words : List (List ℕ)) (e : Event) → IsEvent e → codes "clear" ∷ words ≡ words_of e →
    Shaped AreEnds side_words words
unfolding Follows shape_of is_one
clear_follows = follows (codes "clear")

pub med_follows : (words : List (List ℕ)) (e : Event) → IsEvent e → codes "med" ∷ words ≡ words_of e →
    Shaped IsAddressAndComparison comparison_words words
unfolding Follows shape_of is_one
med_follows = follows (codes "med")

pub feed_follows : (words : List (List ℕ)) (e : Event) → IsEvent e → codes "feed" ∷ words ≡ words_of e →
    Shaped IsFeed feed_words words
unfolding Follows shape_of is_one
feed_follows = follows (codes "feed")

-- the first word of an event, where it is not that of a feed, is a verb
event_verb : (e : Event) → (head_word (words_of e) ≡ codes "feed" → ⊥) → (v : Verb)
    × (head_word (words_of e) ≡ verb_word v)
event_verb (AnEdit (Router a n)) other = (verb.Node node.Router, refl)
event_verb (AnEdit (Virtual a n)) other = (verb.Node node.Virtual, refl)
event_verb (AnEdit (Link a b m)) other = (verb.Link link.Link, refl)
event_verb (AnEdit (Metric a b m)) other = (verb.Link link.Metric, refl)
event_verb (AnEdit (Fail a b)) other = (verb.Pair pair.Fail, refl)
event_verb (AnEdit (Mend a b)) other = (verb.Pair pair.Mend, refl)
event_verb (AnEdit (Join a b)) other = (verb.Pair pair.Join, refl)
event_verb (AnEdit (Stop a b)) other = (verb.Pair pair.Stop, refl)
event_verb (AnEdit (Start a b)) other = (verb.Pair pair.Start, refl)
event_verb (AnEdit (Client a b on)) other = (verb.Switch switch.Client, refl)
event_verb (AnEdit (OwnNext a b on)) other = (verb.Switch switch.OwnNext, refl)
event_verb (AnEdit (Cluster a id)) other = (verb.Pair pair.Cluster, refl)
event_verb (AnEdit (MedAlways a always)) other = (verb.Med, refl)
event_verb (AnEdit (AddRule a b side rule)) other = (verb.Rule, refl)
event_verb (AnEdit (Clear a b side)) other = (verb.Clear, refl)
event_verb (AnEdit (Origin a p)) other = (verb.Prefix prefix.Origin, refl)
event_verb (AnEdit (NoOrigin a p)) other = (verb.Prefix prefix.NoOrigin, refl)
event_verb (AFeed f) other = absurd (other refl)
event_verb (Deliver a b) other = (verb.Pair pair.Deliver, refl)
event_verb (AnAsk (Routes r)) other = (verb.Routes, refl)
event_verb (AnAsk (Best r p)) other = (verb.Prefix prefix.Best, refl)
event_verb (AnAsk (Why r p)) other = (verb.Prefix prefix.Why, refl)
event_verb (AnAsk (In a b)) other = (verb.Pair pair.In, refl)
event_verb (AnAsk (Out a b)) other = (verb.Pair pair.Out, refl)
event_verb (AnAsk (Queue a b)) other = (verb.Pair pair.Queue, refl)
event_verb (AnAsk Quiet) other = (verb.Quiet, refl)
event_verb (AnAsk (Cost r x)) other = (verb.Pair pair.Cost, refl)
event_verb (AnAsk (Trace r d)) other = (verb.Pair pair.Trace, refl)

pub first_verb : (first : List ℕ) (words : List (List ℕ)) (e : Event) → first ∷ words ≡ words_of e →
    (first ≡ codes "feed" → ⊥) → (v : Verb) × (first ≡ verb_word v)
first_verb first words e s =
    subst (λ ws. (head_word ws ≡ codes "feed" → ⊥) → (v : Verb) × (head_word ws ≡ verb_word v)) (sym s) (event_verb e)
