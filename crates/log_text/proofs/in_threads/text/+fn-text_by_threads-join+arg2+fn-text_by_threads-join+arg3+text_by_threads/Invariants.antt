use Rattle.log_text.proofs.in_threads.text.+fn-text_by_threads-join+arg2+fn-text_by_threads-join+arg3+text_by_threads.Given as goal

abbrev pub decreases-join+arg2 : goal.decreases-join+arg2
decreases-join+arg2 g l = l.few

abbrev pub decreases-join+arg3 : goal.decreases-join+arg3
decreases-join+arg3 g l = l.others

abbrev pub decreases-text_by_threads : goal.decreases-text_by_threads
decreases-text_by_threads g l = l.threads
