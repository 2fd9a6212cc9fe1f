-- What was admitted stays so while more is.
use Rattle.std.proofs.Common.{List}
use Rattle.std.proofs.lemmas.List.Elements.{All-weaker}
use Rattle.net_prefix.specs.declared.addr.Addr.{Addr}
use Rattle.session_queue.specs.declared.message.Message.{Message}
use Rattle.session_queue.specs.declared.message.Message.TheVariants.{Update, Withdraw}
use Rattle.session_queue.specs.Waiting.{Queues, IsAdmitted, KeepsAdmitted}
use Rattle.cell_engine.specs.Admitting.{AreAdmitted, AreAllAdmitted}
use Rattle.cell_engine.specs.CellEdits.{CellEdit, edit_sends}

module _ (q r : Queues) (keeps : KeepsAdmitted q r) where
  still_admitted : (m : Message) → IsAdmitted q m → IsAdmitted r m
  still_admitted (Update p attr) is = keeps attr is
  still_admitted (Withdraw p) is = tt

  pub all_still_admitted : (sends : List (Addr × Message)) → AreAdmitted q.admitted sends → AreAdmitted r.admitted sends
  all_still_admitted sends are = All-weaker _ _ (λ e is. still_admitted e.1 is) sends are

  pub each_still_admitted : (xs : List CellEdit) → AreAllAdmitted q.admitted xs → AreAllAdmitted r.admitted xs
  each_still_admitted xs are = All-weaker _ _ (λ x is. all_still_admitted (edit_sends x) is) xs are
