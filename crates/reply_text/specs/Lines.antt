-- The lines of a reply (own), each with its line feed.
use Rattle.std.specs.Prelude.{◌≡◌, ℕ, ◌+◌, List, [], ◌∷◌, ◌++◌, length, map}
use Rattle.std.specs.List.{concat, flat_map, AllByRecursion}
use Rattle.decimal.specs.Separators.{Lacks}
use Rattle.sim_event.specs.declared.reply.Report.{Report}
use Rattle.sim_event.specs.declared.reply.Report.TheVariants.{Routes, Best as TheBest, Why, Rib, Queue, Quiet, Cost as Way, Trace}
use Rattle.sim_event.specs.declared.reply.Reply.{Reply}
use Rattle.sim_event.specs.declared.reply.Reply.TheVariants.{Done, Took, Report as AReport, Refused}
use Rattle.reply_text.specs.Replies.{line_end, held_line, reason_line, route_line, message_line, hop_line, trace_end_line, end_line, report_text, reply_text}

abbrev pub report_lines : Report → List (List ℕ)
report_lines (Routes routes) = map held_line routes ++ end_line (length routes) ∷ []
report_lines (TheBest held) = report_text (TheBest held) ∷ []
report_lines (Why reasons) = map reason_line reasons ++ end_line (length reasons) ∷ []
report_lines (Rib routes) = map route_line routes ++ end_line (length routes) ∷ []
report_lines (Queue messages) = map message_line messages ++ end_line (length messages) ∷ []
report_lines (Quiet quiet) = report_text (Quiet quiet) ∷ []
report_lines (Way way) = report_text (Way way) ∷ []
report_lines (Trace hops end) = map hop_line hops ++ trace_end_line end ∷ end_line (length hops + 1) ∷ []

-- all but a report are one line
abbrev pub reply_lines : Reply → List (List ℕ)
reply_lines Done = reply_text Done ∷ []
reply_lines (Took p k) = reply_text (Took p k) ∷ []
reply_lines (AReport report) = report_lines report
reply_lines (Refused r) = reply_text (Refused r) ∷ []

-- the lines, each with the mark in front
abbrev pub marked : List ℕ → List (List ℕ) → List ℕ
marked mark lines = flat_map (λ line. mark ++ line) lines

-- one line feed, at the end
abbrev pub IsLine : List ℕ → Type 0
IsLine line = (front : List ℕ) × Lacks 10 front × (line ≡ front ++ line_end)

-- a reply's text is its lines, one after the other
abbrev pub RepliesAreLines : Type 0
RepliesAreLines = (r : Reply) → (reply_text r ≡ concat (reply_lines r)) × AllByRecursion IsLine (reply_lines r)
