-- The lines of a reply make up its text, and each has one line feed, at its end.
use Rattle.std.specs.Prelude.{◌≡◌, ◌≢◌, ℕ, ◌+◌, Bool, true, false, ◌==◌, cond, List, [], ◌∷◌, ◌++◌, length, map, codes, Option, Some, None}
use Rattle.std.specs.Fmt.{decimal}
use Rattle.std.specs.List.{concat, flat_map, AllByRecursion}
use Rattle.std.proofs.Common.{⊎_elim, refl, sym, ap, ◌∙◌, arith, append-nil, append_assoc}
use Rattle.std.proofs.lemmas.Bool.{cases_Bool, true≢false, eqb-false}
use Rattle.std.proofs.lemmas.List.Elements.{All-nil, All-cons, All-append}
use Rattle.decimal.specs.Separators.{Lacks}
use Rattle.net_prefix.specs.declared.addr.Addr.{Addr}
use Rattle.net_prefix.specs.Address.{addr_text}
use Rattle.net_prefix.specs.Prefix.{Prefix, prefix_text}
use Rattle.path_attr.specs.declared.attr.Attr.{Attr}
use Rattle.route_select.specs.declared.candidate.Source.{Source}
use Rattle.route_select.specs.declared.candidate.Source.TheVariants.{Own, Peer}
use Rattle.route_select.specs.declared.candidate.Reason.{Reason}
use Rattle.route_select.specs.declared.candidate.Reason.TheVariants.{Loop, Originator, Cluster, Denied, Unresolved, Pref, Length, Origin, Med, External, Cost, Ident, Clusters, Peer as LowerPeer, Best}
use Rattle.session_queue.specs.declared.message.Message.{Message}
use Rattle.session_queue.specs.declared.message.Message.TheVariants.{Update as AnUpdate, Withdraw as AWithdrawal}
use Rattle.session_queue.specs.declared.message.MessageKind.{MessageKind}
use Rattle.session_queue.specs.declared.message.MessageKind.TheVariants.{Update, Withdraw}
use Rattle.net_conf.specs.declared.refusal.Refusal.{Refusal}
use Rattle.net_conf.specs.declared.refusal.Refusal.TheVariants.{Syntax, NoRouter, RouterExists, SameRouter, BadEnd, VirtualInside, NoLink, LinkExists, NotLinked, NoSession, SessionExists, InternalOnly, RuleNotAllowed, OriginExists, NoOrigin, SessionDown, QueueEmpty, FirstAs, Limit, Memory}
use Rattle.net_conf.specs.Refusals.{number_of, name_of}
use Rattle.sim_event.specs.Wording.{numbers_text, path_text}
use Rattle.sim_event.specs.declared.reply.Held.{Held}
use Rattle.sim_event.specs.declared.reply.Report.{Report}
use Rattle.sim_event.specs.declared.reply.Report.TheVariants.{Routes, Best as TheBest, Why, Rib, Queue, Quiet, Cost as Way, Trace}
use Rattle.sim_event.specs.declared.reply.TraceEnd.{TraceEnd}
use Rattle.sim_event.specs.declared.reply.TraceEnd.TheVariants.{Reached, NoRoute, Loop as Round}
use Rattle.sim_event.specs.declared.reply.Reply.TheVariants.{Done, Took, Report as AReport, Refused}
use Rattle.reply_text.specs.Replies.{communities_text, attr_text, source_text, held_line, end_line, kind_text, refusal_text, reason_text, reason_line, route_line, message_line, hop_line, trace_end_line, best_text, quiet_text, way_text, reply_text, report_text}
use Rattle.reply_text.specs.Lines.{report_lines, IsLine, RepliesAreLines}
use Rattle.reply_text.specs.Visible.{AreVisible, visible_lacks, visible_decimal, visible_addr, visible_prefix, visible_numbers, visible_path, visible_origin, visible_maybe_number, visible_maybe_addr, visible_clusters}

-- NO LINE FEED

record Plain (text : List ℕ) : Type 0 where
  lacks : Lacks 10 text

-- as a test, for texts that are written out
abbrev is_plain : List ℕ → Bool
is_plain [] = true
is_plain (b ∷ bs) = cond (b == 10) false (is_plain bs)

word : (text : List ℕ) → is_plain text ≡ true → Plain text
word [] e = record { lacks = All-nil (λ b. b ≢ 10) }
word (b ∷ bs) e = ⊎_elim
    (λ t. absurd (true≢false (sym e ∙ ap (λ x. cond x false (is_plain bs)) t)))
    (λ f. record {
      lacks = All-cons (λ b. b ≢ 10) b bs (λ same. eqb-false b 10 f same)
          (word bs (sym (ap (λ x. cond x false (is_plain bs)) f) ∙ e)).lacks;
    })
    (cases_Bool (b == 10))

both : (a b : List ℕ) → Plain a → Plain b → Plain (a ++ b)
both a b h g = record { lacks = All-append (λ b. b ≢ 10) a b h.lacks g.lacks }

-- a value
value : (text : List ℕ) → AreVisible text → Plain text
value text h = record { lacks = visible_lacks 10 (λ over. omega arith) text h }

-- a value after a word, and both after a text
named : (before name text : List ℕ) → is_plain name ≡ true → Plain before → AreVisible text →
    Plain (before ++ name ++ text)
named before name text e h g = both (before ++ name) text (both before name h (word name e)) (value text g)

communities_plain : (cs : List ℕ) → Plain (communities_text cs)
communities_plain [] = word [] refl
communities_plain (c ∷ cs) = both (codes " comms=") (numbers_text (c ∷ cs)) (word (codes " comms=") refl)
    (value (numbers_text (c ∷ cs)) (visible_numbers (c ∷ cs)))

attr_plain : (a : Attr) → Plain (attr_text a)
unfolding attr_text
attr_plain a =
    both _ (communities_text a.comms)
    (named _ (codes " clusters=") _ refl
    (named _ (codes " oid=") _ refl
    (named _ (codes " pref=") _ refl
    (named _ (codes " med=") _ refl
    (named _ (codes " next=") _ refl
    (named _ (codes " origin=") _ refl
    (both (codes "path=") (path_text a.path) (word (codes "path=") refl)
    (value (path_text a.path) (visible_path a.path)))
    (visible_origin a.origin))
    (visible_addr a.next))
    (visible_maybe_number a.med))
    (visible_maybe_number a.pref))
    (visible_maybe_addr a.oid))
    (visible_clusters a.clusters))
    (communities_plain a.comms)

source_plain : (s : Source) → Plain (source_text s)
source_plain Own = word (source_text Own) refl
source_plain (Peer a) = value (addr_text a) (visible_addr a)

reason_plain : (r : Reason) → Plain (reason_text r)
reason_plain Loop = word (reason_text Loop) refl
reason_plain Originator = word (reason_text Originator) refl
reason_plain Cluster = word (reason_text Cluster) refl
reason_plain Denied = word (reason_text Denied) refl
reason_plain Unresolved = word (reason_text Unresolved) refl
reason_plain Pref = word (reason_text Pref) refl
reason_plain Length = word (reason_text Length) refl
reason_plain Origin = word (reason_text Origin) refl
reason_plain Med = word (reason_text Med) refl
reason_plain External = word (reason_text External) refl
reason_plain Cost = word (reason_text Cost) refl
reason_plain Ident = word (reason_text Ident) refl
reason_plain Clusters = word (reason_text Clusters) refl
reason_plain LowerPeer = word (reason_text LowerPeer) refl
reason_plain Best = word (reason_text Best) refl

kind_plain : (k : MessageKind) → Plain (kind_text k)
kind_plain Update = word (kind_text Update) refl
kind_plain Withdraw = word (kind_text Withdraw) refl

name_plain : (r : Refusal) → Plain (name_of r)
name_plain Syntax = word (name_of Syntax) refl
name_plain NoRouter = word (name_of NoRouter) refl
name_plain RouterExists = word (name_of RouterExists) refl
name_plain SameRouter = word (name_of SameRouter) refl
name_plain BadEnd = word (name_of BadEnd) refl
name_plain VirtualInside = word (name_of VirtualInside) refl
name_plain NoLink = word (name_of NoLink) refl
name_plain LinkExists = word (name_of LinkExists) refl
name_plain NotLinked = word (name_of NotLinked) refl
name_plain NoSession = word (name_of NoSession) refl
name_plain SessionExists = word (name_of SessionExists) refl
name_plain InternalOnly = word (name_of InternalOnly) refl
name_plain RuleNotAllowed = word (name_of RuleNotAllowed) refl
name_plain OriginExists = word (name_of OriginExists) refl
name_plain NoOrigin = word (name_of NoOrigin) refl
name_plain SessionDown = word (name_of SessionDown) refl
name_plain QueueEmpty = word (name_of QueueEmpty) refl
name_plain FirstAs = word (name_of FirstAs) refl
name_plain Limit = word (name_of Limit) refl
name_plain Memory = word (name_of Memory) refl

-- EACH KIND OF LINE

line_of : (front : List ℕ) → Plain front → IsLine (front ++ 10 ∷ [])
line_of front h = (front, h.lacks, refl)

end_is_line : (n : ℕ) → IsLine (end_line n)
end_is_line n = line_of (codes "end " ++ decimal n) (both (codes "end ") (decimal n) (word (codes "end ") refl)
    (value (decimal n) (visible_decimal n)))

held_is_line : (h : Held) → IsLine (held_line h)
unfolding held_line
held_is_line h = line_of _
    (both _ (attr_text h.attr)
    (both _ (codes " ") (both _ (source_text h.source)
    (both (prefix_text h.prefix) (codes " from ") (value (prefix_text h.prefix) (visible_prefix h.prefix))
    (word (codes " from ") refl))
    (source_plain h.source)) (word (codes " ") refl))
    (attr_plain h.attr))

reason_is_line : (e : Source × Reason) → IsLine (reason_line e)
unfolding reason_line
reason_is_line e = line_of _
    (both _ (reason_text e.1) (both (source_text e.0) (codes " ") (source_plain e.0) (word (codes " ") refl))
    (reason_plain e.1))

route_is_line : (e : Prefix × Attr) → IsLine (route_line e)
unfolding route_line
route_is_line e = line_of _
    (both _ (attr_text e.1) (both (prefix_text e.0) (codes " ") (value (prefix_text e.0) (visible_prefix e.0))
    (word (codes " ") refl)) (attr_plain e.1))

message_is_line : (m : Message) → IsLine (message_line m)
unfolding message_line
message_is_line (AnUpdate p attr) = line_of _
    (both _ (attr_text attr) (both _ (codes " ")
    (both (codes "update ") (prefix_text p) (word (codes "update ") refl) (value (prefix_text p) (visible_prefix p)))
    (word (codes " ") refl)) (attr_plain attr))
message_is_line (AWithdrawal p) =
    line_of _ (both (codes "withdraw ") (prefix_text p) (word (codes "withdraw ") refl)
    (value (prefix_text p) (visible_prefix p)))

hop_is_line : (e : Addr × Prefix) → IsLine (hop_line e)
unfolding hop_line
hop_is_line e = line_of _ (named (addr_text e.0) (codes " ") (prefix_text e.1) refl
    (value (addr_text e.0) (visible_addr e.0)) (visible_prefix e.1))

trace_end_is_line : (t : TraceEnd) → IsLine (trace_end_line t)
unfolding trace_end_line
trace_end_is_line (Reached a) =
    line_of _ (both (codes "reached ") (addr_text a) (word (codes "reached ") refl)
    (value (addr_text a) (visible_addr a)))
trace_end_is_line (NoRoute a) =
    line_of _ (both (codes "noroute ") (addr_text a) (word (codes "noroute ") refl)
    (value (addr_text a) (visible_addr a)))
trace_end_is_line (Round a) =
    line_of _ (both (codes "loop ") (addr_text a) (word (codes "loop ") refl) (value (addr_text a) (visible_addr a)))

best_is_line : (b : Option Held) → IsLine (best_text b)
best_is_line None = line_of (codes "none") (word (codes "none") refl)
best_is_line (Some h) = held_is_line h

quiet_is_line : (q : Bool) → IsLine (quiet_text q)
quiet_is_line true = line_of (codes "yes") (word (codes "yes") refl)
quiet_is_line false = line_of (codes "no") (word (codes "no") refl)

way_is_line : (w : Option (ℕ × Addr)) → IsLine (way_text w)
way_is_line None = line_of (codes "none") (word (codes "none") refl)
way_is_line (Some w) = line_of _ (named (decimal w.0) (codes " via ") (addr_text w.1) refl
    (value (decimal w.0) (visible_decimal w.0)) (visible_addr w.1))

refusal_is_line : (r : Refusal) → IsLine (refusal_text r)
refusal_is_line r = line_of _
    (both _ (name_of r) (both _ (codes " ")
    (both (codes "refused ") (decimal (number_of r)) (word (codes "refused ") refl)
    (value (decimal (number_of r)) (visible_decimal (number_of r))))
    (word (codes " ") refl)) (name_plain r))

took_is_line : (p : Prefix) (k : MessageKind) → IsLine (reply_text (Took p k))
took_is_line p k = line_of _
    (both _ (kind_text k) (both _ (codes " ")
    (both (codes "took ") (prefix_text p) (word (codes "took ") refl) (value (prefix_text p) (visible_prefix p)))
    (word (codes " ") refl)) (kind_plain k))

-- ALL LINES OF A REPLY

module _ {X : Type 0} (f : X → List ℕ) where
  each_then : (xs : List X) (ts : List (List ℕ)) → flat_map f xs ++ concat ts ≡ concat (map f xs ++ ts)
  each_then [] ts = refl
  each_then (x ∷ xs) ts = append_assoc (f x) (flat_map f xs) (concat ts) ∙ ap (λ t. f x ++ t) (each_then xs ts)

  each_line : ((x : X) → IsLine (f x)) → (xs : List X) (ts : List (List ℕ)) → AllByRecursion IsLine ts →
      AllByRecursion IsLine (map f xs ++ ts)
  each_line h [] ts all = all
  each_line h (x ∷ xs) ts all = (h x, each_line h xs ts all)

  counted : (xs : List X) (last : List ℕ) → flat_map f xs ++ last ≡ concat (map f xs ++ last ∷ [])
  counted xs last = ap (λ t. flat_map f xs ++ t) (sym (append-nil last)) ∙ each_then xs (last ∷ [])

one : (text : List ℕ) → IsLine text → (text ≡ concat (text ∷ [])) × AllByRecursion IsLine (text ∷ [])
one text h = (sym (append-nil text), (h, tt))

lines_of_report : (r : Report) → (report_text r ≡ concat (report_lines r)) × AllByRecursion IsLine (report_lines r)
lines_of_report (Routes routes) = (
  counted held_line routes (end_line (length routes)),
  each_line held_line held_is_line routes _ (end_is_line (length routes), tt),
)
lines_of_report (TheBest held) = one (best_text held) (best_is_line held)
lines_of_report (Why reasons) = (
  counted reason_line reasons (end_line (length reasons)),
  each_line reason_line reason_is_line reasons _ (end_is_line (length reasons), tt),
)
lines_of_report (Rib routes) = (
  counted route_line routes (end_line (length routes)),
  each_line route_line route_is_line routes _ (end_is_line (length routes), tt),
)
lines_of_report (Queue messages) = (
  counted message_line messages (end_line (length messages)),
  each_line message_line message_is_line messages _ (end_is_line (length messages), tt),
)
lines_of_report (Quiet quiet) = one (quiet_text quiet) (quiet_is_line quiet)
lines_of_report (Way way) = one (way_text way) (way_is_line way)
lines_of_report (Trace hops end) =
    let last = end_line (length hops + 1) in
    let ending = trace_end_line end in (
      append_assoc (flat_map hop_line hops) ending last
          ∙ ap (λ t. flat_map hop_line hops ++ (ending ++ t)) (sym (append-nil last))
          ∙ each_then hop_line hops (ending ∷ last ∷ []),
      each_line hop_line hop_is_line hops (ending ∷ last ∷ []) (
        trace_end_is_line end,
        (end_is_line (length hops + 1), tt),
      ),
    )

pub replies_are_lines : RepliesAreLines
replies_are_lines Done = one (reply_text Done) (line_of (codes "ok") (word (codes "ok") refl))
replies_are_lines (Took p k) = one (reply_text (Took p k)) (took_is_line p k)
replies_are_lines (AReport report) = lines_of_report report
replies_are_lines (Refused r) = one (refusal_text r) (refusal_is_line r)
