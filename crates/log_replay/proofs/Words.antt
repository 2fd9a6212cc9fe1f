-- The words of a command: none is empty, none holds a space or a line feed, and the first does not begin a comment.
use Rattle.std.specs.Prelude.{◌≡◌, ℕ, ◌<◌, Bool, true, false, nat_lt, List, [], ◌∷◌, ◌++◌, length, map, codes, Option, Some, None}
use Rattle.std.specs.Fmt.{decimal}
use Rattle.std.specs.List.{AllByRecursion, join_with_byte}
use Rattle.std.proofs.Common.{refl, arith}
use Rattle.std.proofs.lemmas.Bool.{ltb-true}
use Rattle.std.proofs.lemmas.List.{length-append}
use Rattle.decimal.specs.Digits.{decimal_some}
use Rattle.net_prefix.specs.declared.addr.Addr.{Addr}
use Rattle.net_prefix.specs.Address.{addr_text}
use Rattle.net_prefix.specs.AddressText.{addr_text_some}
use Rattle.net_prefix.specs.Prefix.{Prefix, prefix_text}
use Rattle.net_prefix.specs.PrefixText.{prefix_text_some}
use Rattle.path_attr.specs.declared.path.Segment.{Segment}
use Rattle.path_attr.specs.declared.path.Segment.TheVariants.{Seq as Sequence, Set}
use Rattle.path_attr.specs.declared.origin.Origin.{Origin}
use Rattle.path_attr.specs.declared.origin.Origin.TheVariants.{Igp, Egp, Incomplete}
use Rattle.path_attr.specs.Path.{IsSegment, AreSegments}
use Rattle.route_policy.specs.declared.rule.Match.{Match}
use Rattle.route_policy.specs.declared.rule.Match.TheVariants.{Any, Is, Under, Path, First, Comm}
use Rattle.route_policy.specs.declared.rule.Settings.{Settings}
use Rattle.route_policy.specs.declared.rule.Action.{Action}
use Rattle.route_policy.specs.declared.rule.Action.TheVariants.{Deny, Permit}
use Rattle.net_conf.specs.declared.tables.PolicySide.{PolicySide}
use Rattle.net_conf.specs.declared.tables.PolicySide.TheVariants.{Import, Export}
use Rattle.net_conf.specs.declared.edit.Edit.{Edit}
use Rattle.net_conf.specs.declared.edit.Edit.TheVariants.{Router, Virtual, Link, Metric, Fail, Mend, Join, Stop, Start, Client, OwnNext, Cluster, MedAlways, Rule as AddRule, Clear, Origin as Originate, NoOrigin}
use Rattle.sim_event.specs.declared.event.Event.{Event}
use Rattle.sim_event.specs.declared.event.Event.TheVariants.{Edit as AnEdit, Feed as AFeed, Deliver, Ask as AnAsk}
use Rattle.sim_event.specs.declared.event.News.{News}
use Rattle.sim_event.specs.declared.event.News.TheVariants.{Update, Withdraw}
use Rattle.sim_event.specs.declared.event.Ask.{Ask}
use Rattle.sim_event.specs.declared.event.Ask.TheVariants.{Routes, Best, Why, In, Out, Queue, Quiet, Cost, Trace}
use Rattle.sim_event.specs.Wording.{numbers_text, maybe_number_text, origin_text, path_text, segment_text}
use Rattle.sim_event.specs.Events.{IsEvent, IsNews}
use Rattle.command_text.specs.Words.{words_of, edit_words, news_words, ask_words, match_words, action_words, setting_words, settings_words, communities_words, switch_word, comparison_word, side_word}
use Rattle.command_text.specs.Lines.{are_silent}
use Rattle.reply_text.specs.Visible.{AreVisible, are_visible, visible_word, visible_both, visible_decimal, visible_addr, visible_prefix, visible_numbers, visible_path}

-- a word: not empty, and of visible bytes
abbrev pub IsSolid : List ℕ → Type 0
IsSolid word = (0 < length word) × AreVisible word

abbrev pub AreSolid : List (List ℕ) → Type 0
AreSolid words = AllByRecursion IsSolid words

-- words that are written out
pub literal : (word : List ℕ) → are_visible word ≡ true → nat_lt 0 (length word) ≡ true → IsSolid word
literal word visible some = (ltb-true 0 (length word) some, visible_word word visible)

number : (n : ℕ) → IsSolid (decimal n)
number n = (decimal_some n, visible_decimal n)

address : (a : Addr) → IsSolid (addr_text a)
address a = (addr_text_some a, visible_addr a)

block : (p : Prefix) → IsSolid (prefix_text p)
block p = (prefix_text_some p, visible_prefix p)

switch : (on : Bool) → IsSolid (switch_word on)
switch true = literal (switch_word true) refl refl
switch false = literal (switch_word false) refl refl

comparison : (always : Bool) → IsSolid (comparison_word always)
comparison true = literal (comparison_word true) refl refl
comparison false = literal (comparison_word false) refl refl

side : (s : PolicySide) → IsSolid (side_word s)
side Import = literal (side_word Import) refl refl
side Export = literal (side_word Export) refl refl

origin : (o : Origin) → IsSolid (origin_text o)
origin Igp = literal (origin_text Igp) refl refl
origin Egp = literal (origin_text Egp) refl refl
origin Incomplete = literal (origin_text Incomplete) refl refl

med : (n : Option ℕ) → IsSolid (maybe_number_text n)
med None = literal (maybe_number_text None) refl refl
med (Some n) = number n

joined_some : {X : Type 0} (c : ℕ) (f : X → List ℕ) (x : X) (xs : List X) → 0 < length (f x) →
    0 < length (join_with_byte c (map f (x ∷ xs)))
joined_some c f x [] some = some
joined_some c f x (y ∷ ys) some = omega (arith, length-append (f x) (c ∷ join_with_byte c (map f (y ∷ ys))))

segment_some : (s : Segment) → IsSegment s → 0 < length (segment_text s)
segment_some (Sequence []) h = absurd (omega arith)
segment_some (Sequence (n ∷ ns)) h = joined_some 44 decimal n ns (decimal_some n)
segment_some (Set ns) h = omega arith

path_some : (p : List Segment) → AreSegments p → 0 < length (path_text p)
unfolding path_text
path_some [] h = omega arith
path_some (s ∷ ss) h = joined_some 95 segment_text s ss (segment_some s h.0)

append : (xs ys : List (List ℕ)) → AreSolid xs → AreSolid ys → AreSolid (xs ++ ys)
append [] ys h g = g
append (x ∷ xs) ys h g = (h.0, append xs ys h.1 g)

matches : (m : Match) → AreSolid (match_words m)
matches Any = (literal (codes "any") refl refl, tt)
matches (Is p) = (literal (codes "is") refl refl, (block p, tt))
matches (Under p) = (literal (codes "under") refl refl, (block p, tt))
matches (Path n) = (literal (codes "path") refl refl, (number n, tt))
matches (First n) = (literal (codes "first") refl refl, (number n, tt))
matches (Comm n) = (literal (codes "comm") refl refl, (number n, tt))

setting : (name : List ℕ) (n : Option ℕ) → are_visible name ≡ true → AreSolid (setting_words name n)
setting name None h = tt
setting name (Some n) h = (
  (
    omega (arith, decimal_some n, length-append name (decimal n)),
    visible_both name (decimal n) (visible_word name h) (visible_decimal n),
  ),
  tt,
)

settings : (s : Settings) → AreSolid (settings_words s)
settings s =
    append (setting_words (codes "pref=") s.pref ++ setting_words (codes "med=") s.med
    ++ setting_words (codes "prepend=") s.prepend) (setting_words (codes "add=") s.add)
    (append (setting_words (codes "pref=") s.pref ++ setting_words (codes "med=") s.med)
    (setting_words (codes "prepend=") s.prepend)
    (append (setting_words (codes "pref=") s.pref) (setting_words (codes "med=") s.med)
    (setting (codes "pref=") s.pref refl) (setting (codes "med=") s.med refl))
    (setting (codes "prepend=") s.prepend refl))
    (setting (codes "add=") s.add refl)

action : (a : Action) → AreSolid (action_words a)
action Deny = (literal (codes "deny") refl refl, tt)
action (Permit s) = (literal (codes "permit") refl refl, settings s)

-- how a command's words are made
pub record IsSpelled (words : List (List ℕ)) : Type 0 where
  pub solid : AreSolid words
  pub loud : are_silent words ≡ false

two : (a b : Addr) → AreSolid (addr_text a ∷ addr_text b ∷ [])
two a b = (address a, (address b, tt))

prefixed : (a : Addr) (p : Prefix) → AreSolid (addr_text a ∷ prefix_text p ∷ [])
prefixed a p = (address a, (block p, tt))

edit : (e : Edit) → IsSpelled (edit_words e)
edit (Router a n) = record { solid = (literal (codes "router") refl refl, (address a, (number n, tt))); loud = refl }
edit (Virtual a n) = record { solid = (literal (codes "virtual") refl refl, (address a, (number n, tt))); loud = refl }
edit (Link a b m) = record {
  solid = (literal (codes "link") refl refl, (address a, (address b, (number m, tt))));
  loud = refl;
}
edit (Metric a b m) = record {
  solid = (literal (codes "metric") refl refl, (address a, (address b, (number m, tt))));
  loud = refl;
}
edit (Fail a b) = record { solid = (literal (codes "fail") refl refl, two a b); loud = refl }
edit (Mend a b) = record { solid = (literal (codes "mend") refl refl, two a b); loud = refl }
edit (Join a b) = record { solid = (literal (codes "join") refl refl, two a b); loud = refl }
edit (Stop a b) = record { solid = (literal (codes "stop") refl refl, two a b); loud = refl }
edit (Start a b) = record { solid = (literal (codes "start") refl refl, two a b); loud = refl }
edit (Client a b on) = record {
  solid = (literal (codes "client") refl refl, (address a, (address b, (switch on, tt))));
  loud = refl;
}
edit (OwnNext a b on) = record {
  solid = (literal (codes "self") refl refl, (address a, (address b, (switch on, tt))));
  loud = refl;
}
edit (Cluster a id) = record { solid = (literal (codes "cluster") refl refl, two a id); loud = refl }
edit (MedAlways a always) = record {
  solid = (literal (codes "med") refl refl, (address a, (comparison always, tt)));
  loud = refl;
}
edit (AddRule a b s rule) = record {
  solid = (
    literal (codes "rule") refl refl,
    (
      address a,
      (
        address b,
        (
          side s,
          append (match_words rule.cond) (action_words rule.act) (matches rule.cond)
              (action rule.act),
        ),
      ),
    ),
  );
  loud = refl;
}
edit (Clear a b s) = record {
  solid = (literal (codes "clear") refl refl, (address a, (address b, (side s, tt))));
  loud = refl;
}
edit (Originate a p) = record { solid = (literal (codes "origin") refl refl, prefixed a p); loud = refl }
edit (NoOrigin a p) = record { solid = (literal (codes "noorigin") refl refl, prefixed a p); loud = refl }

communities : (cs : List ℕ) → AreSolid (communities_words cs)
communities [] = tt
communities (c ∷ cs) =
    let numbers = numbers_text (c ∷ cs) in (
      (
        omega (arith, length-append (codes "comm=") numbers),
        visible_both (codes "comm=") numbers (visible_word (codes "comm=") refl) (visible_numbers (c ∷ cs)),
      ),
      tt,
    )

news : (n : News) → IsNews n → AreSolid (news_words n)
news (Update r) h = (
  literal (codes "update") refl refl,
  (
    block r.prefix,
    (
      (path_some r.path h.1.0, visible_path r.path),
      (origin r.origin, (med r.med, communities r.comms)),
    ),
  ),
)
news (Withdraw p) h = (literal (codes "withdraw") refl refl, (block p, tt))

ask : (q : Ask) → IsSpelled (ask_words q)
ask (Routes r) = record { solid = (literal (codes "routes") refl refl, (address r, tt)); loud = refl }
ask (Best r p) = record { solid = (literal (codes "best") refl refl, prefixed r p); loud = refl }
ask (Why r p) = record { solid = (literal (codes "why") refl refl, prefixed r p); loud = refl }
ask (In r x) = record { solid = (literal (codes "in") refl refl, two r x); loud = refl }
ask (Out r x) = record { solid = (literal (codes "out") refl refl, two r x); loud = refl }
ask (Queue a b) = record { solid = (literal (codes "queue") refl refl, two a b); loud = refl }
ask Quiet = record { solid = (literal (codes "quiet") refl refl, tt); loud = refl }
ask (Cost r x) = record { solid = (literal (codes "cost") refl refl, two r x); loud = refl }
ask (Trace r d) = record { solid = (literal (codes "trace") refl refl, two r d); loud = refl }

pub spelled : (e : Event) → IsEvent e → IsSpelled (words_of e)
spelled (AnEdit e) h = edit e
spelled (AFeed f) h = record {
  solid = (
    literal (codes "feed") refl refl,
    (address f.from, (address f.to, news f.news h.2)),
  );
  loud = refl;
}
spelled (Deliver a b) h = record { solid = (literal (codes "deliver") refl refl, two a b); loud = refl }
spelled (AnAsk q) h = ask q
