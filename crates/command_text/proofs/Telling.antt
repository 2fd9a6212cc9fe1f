-- No two events are spelled by the same words: the first word tells the command, and each shape of words its values.
use Rattle.std.proofs.Common.{◌≡◌, ℕ, Bool, List, [], ◌∷◌, cond, codes, Option, Some, None, refl, sym, ap, subst, ◌∙◌, arith}
use Rattle.std.specs.Str.{bytes_eq}
use Rattle.net_prefix.specs.declared.addr.Addr.{Addr}
use Rattle.net_prefix.specs.Prefix.{Prefix}
use Rattle.route_policy.specs.declared.rule.Rule.{Rule}
use Rattle.net_conf.specs.declared.tables.PolicySide.{PolicySide}
use Rattle.net_conf.specs.declared.edit.Edit.TheVariants.{Router, Virtual, Link, Metric, Fail, Mend, Join, Stop, Start, Client, OwnNext, Cluster, MedAlways, Rule as AddRule, Clear, Origin, NoOrigin}
use Rattle.sim_event.specs.declared.event.Event.{Event}
use Rattle.sim_event.specs.declared.event.Event.TheVariants.{Edit as AnEdit, Feed as AFeed, Deliver, Ask as AnAsk}
use Rattle.sim_event.specs.declared.event.Feed.{Feed}
use Rattle.sim_event.specs.declared.event.FedRoute.{FedRoute}
use Rattle.sim_event.specs.declared.event.News.{News}
use Rattle.sim_event.specs.declared.event.News.TheVariants.{Update, Withdraw}
use Rattle.sim_event.specs.declared.event.Ask.TheVariants.{Routes, Best, Why, In, Out, Queue, Quiet, Cost, Trace}
use Rattle.sim_event.specs.Events.{IsAddress, IsEvent, IsFedRoute, IsNews}
use Rattle.command_text.specs.declared.verb.Verb.{Verb}
use Rattle.command_text.specs.declared.verb.Verb.TheVariants as verb
use Rattle.command_text.specs.declared.verb.NodeVerb.TheVariants as node
use Rattle.command_text.specs.declared.verb.LinkVerb.TheVariants as link
use Rattle.command_text.specs.declared.verb.PairVerb.TheVariants as pair
use Rattle.command_text.specs.declared.verb.SwitchVerb.TheVariants as switch
use Rattle.command_text.specs.declared.verb.PrefixVerb.TheVariants as prefix
use Rattle.command_text.specs.Words.{words_of, fed_words, news_words}
use Rattle.command_text.specs.Verbs.{verb_word}
use Rattle.command_text.specs.Arguments.{AreAddresses, addresses_words, IsNumberedAddress, numbered_words, AreEndsAndMetric, metric_words, IsAddressAndPrefix, prefix_words, AreEnds, switch_words, side_words, IsAddressAndComparison, comparison_words, IsAddedRule, added_words, address_words}
use Rattle.command_text.specs.Spelling.{WordsTell, OneMeaning}
use Rattle.command_text.proofs.FirstWords.{IsFeed, feed_words}
use Rattle.command_text.proofs.Numbers.{small_exact}
use Rattle.command_text.proofs.CommunityWords.{communities_exact}
use Rattle.command_text.proofs.Spelled.{address_exact, prefix_exact, switch_exact, comparison_exact, side_exact, origin_exact, maybe_exact, path_exact, rule_exact, apart}

-- the verb that a word spells; none for `feed`
verb_of : List ℕ → Option Verb
verb_of word =
    cond (bytes_eq word (codes "router")) (Some (verb.Node node.Router)) (
    cond (bytes_eq word (codes "virtual")) (Some (verb.Node node.Virtual)) (
    cond (bytes_eq word (codes "link")) (Some (verb.Link link.Link)) (
    cond (bytes_eq word (codes "metric")) (Some (verb.Link link.Metric)) (
    cond (bytes_eq word (codes "fail")) (Some (verb.Pair pair.Fail)) (
    cond (bytes_eq word (codes "mend")) (Some (verb.Pair pair.Mend)) (
    cond (bytes_eq word (codes "join")) (Some (verb.Pair pair.Join)) (
    cond (bytes_eq word (codes "stop")) (Some (verb.Pair pair.Stop)) (
    cond (bytes_eq word (codes "start")) (Some (verb.Pair pair.Start)) (
    cond (bytes_eq word (codes "cluster")) (Some (verb.Pair pair.Cluster)) (
    cond (bytes_eq word (codes "deliver")) (Some (verb.Pair pair.Deliver)) (
    cond (bytes_eq word (codes "in")) (Some (verb.Pair pair.In)) (
    cond (bytes_eq word (codes "out")) (Some (verb.Pair pair.Out)) (
    cond (bytes_eq word (codes "queue")) (Some (verb.Pair pair.Queue)) (
    cond (bytes_eq word (codes "cost")) (Some (verb.Pair pair.Cost)) (
    cond (bytes_eq word (codes "trace")) (Some (verb.Pair pair.Trace)) (
    cond (bytes_eq word (codes "client")) (Some (verb.Switch switch.Client)) (
    cond (bytes_eq word (codes "self")) (Some (verb.Switch switch.OwnNext)) (
    cond (bytes_eq word (codes "origin")) (Some (verb.Prefix prefix.Origin)) (
    cond (bytes_eq word (codes "noorigin")) (Some (verb.Prefix prefix.NoOrigin)) (
    cond (bytes_eq word (codes "best")) (Some (verb.Prefix prefix.Best)) (
    cond (bytes_eq word (codes "why")) (Some (verb.Prefix prefix.Why)) (
    cond (bytes_eq word (codes "rule")) (Some verb.Rule) (
    cond (bytes_eq word (codes "clear")) (Some verb.Clear) (
    cond (bytes_eq word (codes "med")) (Some verb.Med) (
    cond (bytes_eq word (codes "routes")) (Some verb.Routes) (
    cond (bytes_eq word (codes "quiet")) (Some verb.Quiet) (
    None)))))))))))))))))))))))))))

verb_back : (v : Verb) → verb_of (verb_word v) ≡ Some v
unfolding verb_of
verb_back (verb.Node node.Router) = refl
verb_back (verb.Node node.Virtual) = refl
verb_back (verb.Link link.Link) = refl
verb_back (verb.Link link.Metric) = refl
verb_back (verb.Pair pair.Fail) = refl
verb_back (verb.Pair pair.Mend) = refl
verb_back (verb.Pair pair.Join) = refl
verb_back (verb.Pair pair.Stop) = refl
verb_back (verb.Pair pair.Start) = refl
verb_back (verb.Pair pair.Cluster) = refl
verb_back (verb.Pair pair.Deliver) = refl
verb_back (verb.Pair pair.In) = refl
verb_back (verb.Pair pair.Out) = refl
verb_back (verb.Pair pair.Queue) = refl
verb_back (verb.Pair pair.Cost) = refl
verb_back (verb.Pair pair.Trace) = refl
verb_back (verb.Switch switch.Client) = refl
verb_back (verb.Switch switch.OwnNext) = refl
verb_back (verb.Prefix prefix.Origin) = refl
verb_back (verb.Prefix prefix.NoOrigin) = refl
verb_back (verb.Prefix prefix.Best) = refl
verb_back (verb.Prefix prefix.Why) = refl
verb_back verb.Rule = refl
verb_back verb.Clear = refl
verb_back verb.Med = refl
verb_back verb.Routes = refl
verb_back verb.Quiet = refl

-- what follows each verb
Follows : Verb → Type 0
Follows (verb.Node v) = Addr × ℕ
Follows (verb.Link v) = Addr × Addr × ℕ
Follows (verb.Pair v) = Addr × Addr
Follows (verb.Switch v) = Addr × Addr × Bool
Follows (verb.Prefix v) = Addr × Prefix
Follows verb.Rule = Addr × Addr × PolicySide × Rule
Follows verb.Clear = Addr × Addr × PolicySide
Follows verb.Med = Addr × Bool
Follows verb.Routes = Addr
Follows verb.Quiet = Unit {0}

IsIn : (v : Verb) → Follows v → Type 0
unfolding Follows
IsIn (verb.Node v) x = IsNumberedAddress x
IsIn (verb.Link v) x = AreEndsAndMetric x
IsIn (verb.Pair v) x = AreAddresses x
IsIn (verb.Switch v) x = AreEnds x
IsIn (verb.Prefix v) x = IsAddressAndPrefix x
IsIn verb.Rule x = IsAddedRule x
IsIn verb.Clear x = AreEnds x
IsIn verb.Med x = IsAddressAndComparison x
IsIn verb.Routes x = IsAddress x
IsIn verb.Quiet x = Unit {0}

more_words : (v : Verb) → Follows v → List (List ℕ)
unfolding Follows
more_words (verb.Node v) x = numbered_words x
more_words (verb.Link v) x = metric_words x
more_words (verb.Pair v) x = addresses_words x
more_words (verb.Switch v) x = switch_words x
more_words (verb.Prefix v) x = prefix_words x
more_words verb.Rule x = added_words x
more_words verb.Clear x = side_words x
more_words verb.Med x = comparison_words x
more_words verb.Routes x = address_words x
more_words verb.Quiet x = []

event_of : (v : Verb) → Follows v → Event
unfolding Follows
event_of (verb.Node node.Router) x = AnEdit (Router x.0 x.1)
event_of (verb.Node node.Virtual) x = AnEdit (Virtual x.0 x.1)
event_of (verb.Link link.Link) x = AnEdit (Link x.0 x.1 x.2)
event_of (verb.Link link.Metric) x = AnEdit (Metric x.0 x.1 x.2)
event_of (verb.Pair pair.Fail) x = AnEdit (Fail x.0 x.1)
event_of (verb.Pair pair.Mend) x = AnEdit (Mend x.0 x.1)
event_of (verb.Pair pair.Join) x = AnEdit (Join x.0 x.1)
event_of (verb.Pair pair.Stop) x = AnEdit (Stop x.0 x.1)
event_of (verb.Pair pair.Start) x = AnEdit (Start x.0 x.1)
event_of (verb.Pair pair.Cluster) x = AnEdit (Cluster x.0 x.1)
event_of (verb.Pair pair.Deliver) x = Deliver x.0 x.1
event_of (verb.Pair pair.In) x = AnAsk (In x.0 x.1)
event_of (verb.Pair pair.Out) x = AnAsk (Out x.0 x.1)
event_of (verb.Pair pair.Queue) x = AnAsk (Queue x.0 x.1)
event_of (verb.Pair pair.Cost) x = AnAsk (Cost x.0 x.1)
event_of (verb.Pair pair.Trace) x = AnAsk (Trace x.0 x.1)
event_of (verb.Switch switch.Client) x = AnEdit (Client x.0 x.1 x.2)
event_of (verb.Switch switch.OwnNext) x = AnEdit (OwnNext x.0 x.1 x.2)
event_of (verb.Prefix prefix.Origin) x = AnEdit (Origin x.0 x.1)
event_of (verb.Prefix prefix.NoOrigin) x = AnEdit (NoOrigin x.0 x.1)
event_of (verb.Prefix prefix.Best) x = AnAsk (Best x.0 x.1)
event_of (verb.Prefix prefix.Why) x = AnAsk (Why x.0 x.1)
event_of verb.Rule x = AnEdit (AddRule x.0 x.1 x.2 x.3)
event_of verb.Clear x = AnEdit (Clear x.0 x.1 x.2)
event_of verb.Med x = AnEdit (MedAlways x.0 x.1)
event_of verb.Routes x = AnAsk (Routes x)
event_of verb.Quiet x = AnAsk Quiet

-- an event but a feed: its verb, what follows it, and that they make it and spell it
record IsMade (e : Event) : Type 0 where
  made_verb : Verb
  more : Follows made_verb
  is_in : IsIn made_verb more
  made : event_of made_verb more ≡ e
  spelled : words_of e ≡ verb_word made_verb ∷ more_words made_verb more

-- each event is made so, or is a feed
data Kind (e : Event) : Type 0 where
  by_verb : IsMade e → Kind e
  by_feed : (f : Feed) → IsFeed f → AFeed f ≡ e → words_of e ≡ codes "feed" ∷ feed_words f → Kind e

kind_of : (e : Event) → IsEvent e → Kind e
unfolding Follows IsIn more_words event_of
kind_of (AnEdit (Router a n)) h =
    by_verb (record { made_verb = verb.Node node.Router; more = (a, n); is_in = h; made = refl; spelled = refl })
kind_of (AnEdit (Virtual a n)) h =
    by_verb (record { made_verb = verb.Node node.Virtual; more = (a, n); is_in = h; made = refl; spelled = refl })
kind_of (AnEdit (Link a b m)) h =
    by_verb (record { made_verb = verb.Link link.Link; more = (a, b, m); is_in = h; made = refl; spelled = refl })
kind_of (AnEdit (Metric a b m)) h =
    by_verb (record { made_verb = verb.Link link.Metric; more = (a, b, m); is_in = h; made = refl; spelled = refl })
kind_of (AnEdit (Fail a b)) h =
    by_verb (record { made_verb = verb.Pair pair.Fail; more = (a, b); is_in = h; made = refl; spelled = refl })
kind_of (AnEdit (Mend a b)) h =
    by_verb (record { made_verb = verb.Pair pair.Mend; more = (a, b); is_in = h; made = refl; spelled = refl })
kind_of (AnEdit (Join a b)) h =
    by_verb (record { made_verb = verb.Pair pair.Join; more = (a, b); is_in = h; made = refl; spelled = refl })
kind_of (AnEdit (Stop a b)) h =
    by_verb (record { made_verb = verb.Pair pair.Stop; more = (a, b); is_in = h; made = refl; spelled = refl })
kind_of (AnEdit (Start a b)) h =
    by_verb (record { made_verb = verb.Pair pair.Start; more = (a, b); is_in = h; made = refl; spelled = refl })
kind_of (AnEdit (Cluster a b)) h =
    by_verb (record { made_verb = verb.Pair pair.Cluster; more = (a, b); is_in = h; made = refl; spelled = refl })
kind_of (Deliver a b) h =
    by_verb (record { made_verb = verb.Pair pair.Deliver; more = (a, b); is_in = h; made = refl; spelled = refl })
kind_of (AnAsk (In a b)) h =
    by_verb (record { made_verb = verb.Pair pair.In; more = (a, b); is_in = h; made = refl; spelled = refl })
kind_of (AnAsk (Out a b)) h =
    by_verb (record { made_verb = verb.Pair pair.Out; more = (a, b); is_in = h; made = refl; spelled = refl })
kind_of (AnAsk (Queue a b)) h =
    by_verb (record { made_verb = verb.Pair pair.Queue; more = (a, b); is_in = h; made = refl; spelled = refl })
kind_of (AnAsk (Cost a b)) h =
    by_verb (record { made_verb = verb.Pair pair.Cost; more = (a, b); is_in = h; made = refl; spelled = refl })
kind_of (AnAsk (Trace a b)) h =
    by_verb (record { made_verb = verb.Pair pair.Trace; more = (a, b); is_in = h; made = refl; spelled = refl })
kind_of (AnEdit (Client a b on)) h =
    by_verb (record {
      made_verb = verb.Switch switch.Client;
      more = (a, b, on);
      is_in = h;
      made = refl;
      spelled = refl;
    })
kind_of (AnEdit (OwnNext a b on)) h =
    by_verb (record {
      made_verb = verb.Switch switch.OwnNext;
      more = (a, b, on);
      is_in = h;
      made = refl;
      spelled = refl;
    })
kind_of (AnEdit (Origin a p)) h =
    by_verb (record { made_verb = verb.Prefix prefix.Origin; more = (a, p); is_in = h; made = refl; spelled = refl })
kind_of (AnEdit (NoOrigin a p)) h =
    by_verb (record { made_verb = verb.Prefix prefix.NoOrigin; more = (a, p); is_in = h; made = refl; spelled = refl })
kind_of (AnAsk (Best a p)) h =
    by_verb (record { made_verb = verb.Prefix prefix.Best; more = (a, p); is_in = h; made = refl; spelled = refl })
kind_of (AnAsk (Why a p)) h =
    by_verb (record { made_verb = verb.Prefix prefix.Why; more = (a, p); is_in = h; made = refl; spelled = refl })
kind_of (AnEdit (AddRule a b side rule)) h =
    by_verb (record {
      made_verb = verb.Rule;
      more = (a, b, side, rule);
      is_in = (h.0, h.1, (h.2, h.3));
      made = refl;
      spelled = refl;
    })
kind_of (AnEdit (Clear a b side)) h =
    by_verb (record { made_verb = verb.Clear; more = (a, b, side); is_in = h; made = refl; spelled = refl })
kind_of (AnEdit (MedAlways a always)) h =
    by_verb (record { made_verb = verb.Med; more = (a, always); is_in = h; made = refl; spelled = refl })
kind_of (AnAsk (Routes r)) h =
    by_verb (record { made_verb = verb.Routes; more = r; is_in = h; made = refl; spelled = refl })
kind_of (AnAsk Quiet) h =
    by_verb (record { made_verb = verb.Quiet; more = tt; is_in = tt; made = refl; spelled = refl })
kind_of (AFeed f) h = by_feed f h refl refl

-- what follows a verb is known from its words
more_exact : (v : Verb) (x y : Follows v) → IsIn v x → IsIn v y → more_words v x ≡ more_words v y → x ≡ y
unfolding Follows IsIn more_words
more_exact (verb.Node v) x y h g e =
    let a = address_exact x.0 y.0 h.0 g.0 (cc) in
    let n = small_exact x.1 y.1 h.1.1 g.1.1 (cc) in
    λ i. (a i, n i)
more_exact (verb.Link v) x y h g e =
    let a = address_exact x.0 y.0 h.0 g.0 (cc) in
    let b = address_exact x.1 y.1 h.1 g.1 (cc) in
    let m = small_exact x.2 y.2 (omega (arith, h.2.1)) (omega (arith, g.2.1)) (cc) in
    λ i. (a i, b i, m i)
more_exact (verb.Pair v) x y h g e =
    let a = address_exact x.0 y.0 h.0 g.0 (cc) in
    let b = address_exact x.1 y.1 h.1 g.1 (cc) in
    λ i. (a i, b i)
more_exact (verb.Switch v) x y h g e =
    let a = address_exact x.0 y.0 h.0 g.0 (cc) in
    let b = address_exact x.1 y.1 h.1 g.1 (cc) in
    let on = switch_exact x.2 y.2 (cc) in
    λ i. (a i, b i, on i)
more_exact (verb.Prefix v) x y h g e =
    let a = address_exact x.0 y.0 h.0 g.0 (cc) in
    let p = prefix_exact x.1 y.1 h.1 g.1 (cc) in
    λ i. (a i, p i)
more_exact verb.Rule x y h g e =
    let a = address_exact x.0 y.0 h.0 g.0 (cc) in
    let b = address_exact x.1 y.1 h.1 g.1 (cc) in
    let side = side_exact x.2 y.2 (cc) in
    let rule = rule_exact x.3 y.3 h.2 g.2 (cc) in
    λ i. (a i, b i, side i, rule i)
more_exact verb.Clear x y h g e =
    let a = address_exact x.0 y.0 h.0 g.0 (cc) in
    let b = address_exact x.1 y.1 h.1 g.1 (cc) in
    let side = side_exact x.2 y.2 (cc) in
    λ i. (a i, b i, side i)
more_exact verb.Med x y h g e =
    let a = address_exact x.0 y.0 h g (cc) in
    let always = comparison_exact x.1 y.1 (cc) in
    λ i. (a i, always i)
more_exact verb.Routes x y h g e = address_exact x y h g (cc)
more_exact verb.Quiet x y h g e = refl

fed_exact : (r s : FedRoute) → IsFedRoute r → IsFedRoute s → fed_words r ≡ fed_words s → r ≡ s
fed_exact r s h g e =
    let prefixes = prefix_exact r.prefix s.prefix h.0 g.0 (cc) in
    let paths = path_exact r.path s.path (h.1, h.2) (g.1, g.2) (cc) in
    let origins = origin_exact r.origin s.origin (cc) in
    let meds = maybe_exact r.med s.med h.3 g.3 (cc) in
    let communities = communities_exact r.comms s.comms h.4 g.4 (cc) in
    λ i. record { prefix = prefixes i; path = paths i; origin = origins i; med = meds i; comms = communities i }

news_exact : (m n : News) → IsNews m → IsNews n → news_words m ≡ news_words n → m ≡ n
news_exact (Update r) (Update s) h g e = ap Update (fed_exact r s h g (cc))
news_exact (Update r) (Withdraw q) h g e = apart (codes "update") (codes "withdraw") _ _ refl e
news_exact (Withdraw p) (Update s) h g e = apart (codes "withdraw") (codes "update") _ _ refl e
news_exact (Withdraw p) (Withdraw q) h g e = ap Withdraw (prefix_exact p q h g (cc))

feed_exact : (f g : Feed) → IsFeed f → IsFeed g → feed_words f ≡ feed_words g → f ≡ g
feed_exact f g hf hg e =
    let froms = address_exact f.from g.from hf.0 hg.0 (cc) in
    let tos = address_exact f.to g.to hf.1 hg.1 (cc) in
    let news = news_exact f.news g.news hf.2 hg.2 (cc) in
    λ i. record { from = froms i; to = tos i; news = news i }

-- verbs that are spelled alike are one
verb_exact : (v w : Verb) → verb_word v ≡ verb_word w → v ≡ w
verb_exact v w e = let both : Some v ≡ Some w = sym (verb_back v) ∙ ap verb_of e ∙ verb_back w in cc

not_feed : (v : Verb) → verb_word v ≡ codes "feed" → ⊥
unfolding verb_of
not_feed v e = let both : Some v ≡ None = sym (verb_back v) ∙ ap verb_of e in cc

same_verb : (v w : Verb) → v ≡ w → (x : Follows v) (y : Follows w) → IsIn v x → IsIn w y →
    more_words v x ≡ more_words w y → event_of v x ≡ event_of w y
same_verb v w same = subst (λ w. (x : Follows v) (y : Follows w) → IsIn v x → IsIn w y →
    more_words v x ≡ more_words w y → event_of v x ≡ event_of w y) same
    (λ x y h g e. ap (event_of v) (more_exact v x y h g e))

by_kinds : (e f : Event) → Kind e → Kind f → words_of e ≡ words_of f → e ≡ f
by_kinds e f (by_verb a) (by_verb b) s =
    let all : verb_word a.made_verb ∷ more_words a.made_verb a.more ≡ verb_word b.made_verb
    ∷ more_words b.made_verb b.more = sym a.spelled ∙ s ∙ b.spelled in
    sym a.made ∙ same_verb a.made_verb b.made_verb (verb_exact a.made_verb b.made_verb (cc)) a.more b.more a.is_in
    b.is_in (cc) ∙ b.made
by_kinds e f (by_verb a) (by_feed g hg is sg) s =
    let all : verb_word a.made_verb ∷ more_words a.made_verb a.more ≡ codes "feed" ∷ feed_words g = sym a.spelled ∙ s
    ∙ sg in
    absurd (not_feed a.made_verb (cc))
by_kinds e f (by_feed g hg is sg) (by_verb b) s =
    let all : codes "feed" ∷ feed_words g ≡ verb_word b.made_verb ∷ more_words b.made_verb b.more = sym sg ∙ s
    ∙ b.spelled in
    absurd (not_feed b.made_verb (cc))
by_kinds e f (by_feed g hg is sg) (by_feed k hk are sk) s =
    let all : codes "feed" ∷ feed_words g ≡ codes "feed" ∷ feed_words k = sym sg ∙ s ∙ sk in
    sym is ∙ ap AFeed (feed_exact g k hg hk (cc)) ∙ are

pub words_tell : WordsTell
words_tell e f he hf s = by_kinds e f (kind_of e he) (kind_of f hf) s

pub one_meaning : OneMeaning
one_meaning line e f h g = words_tell e f h.1 g.1 (sym h.2 ∙ g.2)
