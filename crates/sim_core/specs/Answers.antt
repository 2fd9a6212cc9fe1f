-- The answer to a question.
use Rattle.std.specs.Prelude.{◌≡◌, false, None, Result, Ok, Err}
use Rattle.net_conf.specs.declared.refusal.Refusal.{Refusal}
use Rattle.net_conf.specs.Edits.{refusal_or_memory}
use Rattle.sim_event.specs.declared.event.Event.TheVariants.{Ask as AnAsk}
use Rattle.sim_event.specs.declared.event.Ask.{Ask}
use Rattle.sim_event.specs.declared.reply.Report.{Report}
use Rattle.reference_machine.specs.Network.{Network}
use Rattle.reference_machine.specs.Machine.{asks_quiet, ask_refusal, report_of}

-- the machine's own report where no test holds; refused by the first test that holds, or for want of memory where none
-- does: never that where it is asked whether all queues are empty
abbrev pub IsAnswer : Network → Ask → Result Report Refusal → Type 0
IsAnswer s q (Ok report) = (ask_refusal s.conf q ≡ None) × (report ≡ report_of s q)
IsAnswer s q (Err r) = (refusal_or_memory (ask_refusal s.conf q) ≡ r) × (asks_quiet (AnAsk q) ≡ false)
