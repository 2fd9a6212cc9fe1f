-- The text of a reply (own): its lines, each ended by a line feed.
use Rattle.std.specs.Prelude.{ℕ, ◌+◌, Bool, true, false, List, [], ◌∷◌, ◌++◌, length, codes, Option, Some, None}
use Rattle.std.specs.Fmt.{decimal}
use Rattle.std.specs.List.{flat_map}
use Rattle.net_prefix.specs.declared.addr.Addr.{Addr}
use Rattle.net_prefix.specs.Address.{addr_text}
use Rattle.net_prefix.specs.Prefix.{Prefix, prefix_text}
use Rattle.path_attr.specs.declared.attr.Attr.{Attr}
use Rattle.route_select.specs.declared.candidate.Source.{Source}
use Rattle.route_select.specs.declared.candidate.Source.TheVariants.{Own, Peer}
use Rattle.route_select.specs.declared.candidate.Reason.{Reason}
use Rattle.route_select.specs.declared.candidate.Reason.TheVariants.{Loop, Originator, Cluster, Denied, Unresolved, Pref, Length, Origin, Med, External, Cost, Ident, Clusters, Peer as LowerPeer, Best}
use Rattle.session_queue.specs.declared.message.Message.{Message}
use Rattle.session_queue.specs.declared.message.Message.TheVariants.{Update as AnUpdate, Withdraw as AWithdrawal}
use Rattle.session_queue.specs.declared.message.MessageKind.{MessageKind}
use Rattle.session_queue.specs.declared.message.MessageKind.TheVariants.{Update, Withdraw}
use Rattle.net_conf.specs.declared.refusal.Refusal.{Refusal}
use Rattle.net_conf.specs.Refusals.{number_of, name_of}
use Rattle.sim_event.specs.Wording.{numbers_text, path_text, origin_text, maybe_number_text, maybe_addr_text, clusters_text}
use Rattle.sim_event.specs.declared.reply.Held.{Held}
use Rattle.sim_event.specs.declared.reply.Report.{Report}
use Rattle.sim_event.specs.declared.reply.Report.TheVariants.{Routes, Best as TheBest, Why, Rib, Queue, Quiet, Cost as Way, Trace}
use Rattle.sim_event.specs.declared.reply.TraceEnd.{TraceEnd}
use Rattle.sim_event.specs.declared.reply.TraceEnd.TheVariants.{Reached, NoRoute, Loop as Round}
use Rattle.sim_event.specs.declared.reply.Reply.{Reply}
use Rattle.sim_event.specs.declared.reply.Reply.TheVariants.{Done, Took, Report as AReport, Refused}

abbrev pub line_end : List ℕ
line_end = 10 ∷ []

-- the communities with their name, where there are some
abbrev pub communities_text : List ℕ → List ℕ
communities_text [] = []
communities_text (c ∷ cs) = codes " comms=" ++ numbers_text (c ∷ cs)

-- the eight attributes, each with its name
unfoldable pub attr_text : Attr → List ℕ
attr_text a = codes "path=" ++ path_text a.path ++ codes " origin=" ++ origin_text a.origin ++ codes " next="
    ++ addr_text a.next
    ++ codes " med=" ++ maybe_number_text a.med ++ codes " pref=" ++ maybe_number_text a.pref
    ++ codes " oid=" ++ maybe_addr_text a.oid ++ codes " clusters=" ++ clusters_text a.clusters
    ++ communities_text a.comms

abbrev pub source_text : Source → List ℕ
source_text Own = codes "self"
source_text (Peer a) = addr_text a

-- a chosen route, on a line
unfoldable pub held_line : Held → List ℕ
held_line h = prefix_text h.prefix ++ codes " from " ++ source_text h.source ++ codes " "
    ++ attr_text h.attr ++ line_end

-- how many lines there were
abbrev pub end_line : ℕ → List ℕ
end_line n = codes "end " ++ decimal n ++ line_end

abbrev pub kind_text : MessageKind → List ℕ
kind_text Update = codes "update"
kind_text Withdraw = codes "withdraw"

abbrev pub refusal_text : Refusal → List ℕ
refusal_text r = codes "refused " ++ decimal (number_of r) ++ codes " " ++ name_of r ++ line_end

-- why a route was chosen or dropped
abbrev pub reason_text : Reason → List ℕ
reason_text Loop = codes "loop"
reason_text Originator = codes "originator"
reason_text Cluster = codes "cluster"
reason_text Denied = codes "denied"
reason_text Unresolved = codes "unresolved"
reason_text Pref = codes "pref"
reason_text Length = codes "length"
reason_text Origin = codes "origin"
reason_text Med = codes "med"
reason_text External = codes "external"
reason_text Cost = codes "cost"
reason_text Ident = codes "ident"
reason_text Clusters = codes "clusters"
reason_text LowerPeer = codes "peer"
reason_text Best = codes "best"

unfoldable pub reason_line : (Source × Reason) → List ℕ
reason_line e = source_text e.0 ++ codes " " ++ reason_text e.1 ++ line_end

-- a route of an Adj-RIB-In or an Adj-RIB-Out
unfoldable pub route_line : (Prefix × Attr) → List ℕ
route_line e = prefix_text e.0 ++ codes " " ++ attr_text e.1 ++ line_end

unfoldable pub message_line : Message → List ℕ
message_line (AnUpdate p attr) = codes "update " ++ prefix_text p ++ codes " " ++ attr_text attr ++ line_end
message_line (AWithdrawal p) = codes "withdraw " ++ prefix_text p ++ line_end

-- a router that forwards, and the prefix by which it does
unfoldable pub hop_line : (Addr × Prefix) → List ℕ
hop_line e = addr_text e.0 ++ codes " " ++ prefix_text e.1 ++ line_end

unfoldable pub trace_end_line : TraceEnd → List ℕ
trace_end_line (Reached a) = codes "reached " ++ addr_text a ++ line_end
trace_end_line (NoRoute a) = codes "noroute " ++ addr_text a ++ line_end
trace_end_line (Round a) = codes "loop " ++ addr_text a ++ line_end

abbrev pub best_text : Option Held → List ℕ
best_text None = codes "none" ++ line_end
best_text (Some h) = held_line h

abbrev pub quiet_text : Bool → List ℕ
quiet_text true = codes "yes" ++ line_end
quiet_text false = codes "no" ++ line_end

-- a cost and a first hop
abbrev pub way_text : Option (ℕ × Addr) → List ℕ
way_text None = codes "none" ++ line_end
way_text (Some w) = decimal w.0 ++ codes " via " ++ addr_text w.1 ++ line_end

abbrev pub report_text : Report → List ℕ
report_text (Routes routes) = flat_map held_line routes ++ end_line (length routes)
report_text (TheBest held) = best_text held
report_text (Why reasons) = flat_map reason_line reasons ++ end_line (length reasons)
report_text (Rib routes) = flat_map route_line routes ++ end_line (length routes)
report_text (Queue messages) = flat_map message_line messages ++ end_line (length messages)
report_text (Quiet quiet) = quiet_text quiet
report_text (Way way) = way_text way
-- the end of a trace is a line of its own
report_text (Trace hops end) = flat_map hop_line hops ++ trace_end_line end ++ end_line (length hops + 1)

abbrev pub reply_text : Reply → List ℕ
reply_text Done = codes "ok" ++ line_end
reply_text (Took p k) = codes "took " ++ prefix_text p ++ codes " " ++ kind_text k ++ line_end
reply_text (AReport report) = report_text report
reply_text (Refused r) = refusal_text r
