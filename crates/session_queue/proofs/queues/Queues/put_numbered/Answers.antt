use Rattle.std.proofs.Common.{◌≡◌, ◌+◌, List, [], ◌∷◌, ◌++◌, max, Result, Ok, Err, OnOk, OnErr, sym, ap, subst, ◌∙◌}
use Rattle.std.specs.List.{All}
use Rattle.std.proofs.lemmas.List.Elements.{All-push}
use Rattle.net_prefix.specs.declared.addr.Addr.{Addr}
use Rattle.path_attr.specs.declared.attr.Attr.{Attr}
use Rattle.session_queue.specs.declared.numbered.Numbered.{Numbered}
use Rattle.session_queue.specs.Lines.{Lines, messages_at, spare_in, KeepsOtherLines}
use Rattle.session_queue.specs.Numbers.{message_by, shown, IsGiven, AreGiven}
use Rattle.session_queue.specs.Waiting.{Queues, queue_at, spare_at}
use Rattle.session_queue.proofs.Shown.{queue_longer, spare_shown, spare_was, others_stay, given_everywhere}
use Rattle.session_queue.proofs.queues.Queues.put_numbered.Goals as goal

-- the lines ls have become ms, n being put at the end of the direction's; q is what was seen of ls
module _ {T E : Type 0} (pool : List Attr) (ls ms : Lines Numbered) (q : Queues) (seen : shown pool ls ≡ q)
    (from to : Addr) (n : Numbered) where
  all_given : (r : Result T E) → OnOk r (messages_at ms from to ≡ messages_at ls from to ++ n ∷ []) →
      OnErr r (ms ≡ ls) → KeepsOtherLines from to ls ms → AreGiven pool ls → IsGiven q.admitted n → AreGiven pool ms
  all_given (Ok u) longer same others all given =
      let here = All-push (IsGiven pool) (messages_at ls from to) n (all.given from to)
      (subst (λ (w : Queues). IsGiven w.admitted n) (sym seen) given) in
      given_everywhere pool ls ms from to others all (subst (All (IsGiven pool)) (sym longer) here)
  all_given (Err e) longer same others all given = subst (AreGiven pool) (sym same) all

  queue_put : (r : Result T E) → OnOk r (messages_at ms from to ≡ messages_at ls from to ++ n ∷ []) →
      OnOk r (queue_at (shown pool ms) from to ≡ queue_at q from to ++ message_by q.admitted n ∷ [])
  queue_put (Ok u) longer = queue_longer pool ls ms q seen from to n (message_by q.admitted n)
      (ap (λ (w : Queues). message_by w.admitted n) seen) longer
  queue_put (Err e) longer = tt

  spare_put : (r : Result T E) → OnOk r (spare_in ms from to + 1 ≡ max 1 (spare_in ls from to)) →
      OnOk r (spare_at (shown pool ms) from to + 1 ≡ max 1 (spare_at q from to))
  spare_put (Ok u) is = ap (λ s. s + 1) (spare_shown pool ms from to) ∙ is
      ∙ ap (max 1) (sym (spare_was pool ls ms q seen from to))
  spare_put (Err e) is = tt

pub invariant_of-self : goal.invariant_of-self
invariant_of-self c = all_given c.self.inside.pool c.self.inside.queues c.put.new.self c.args.self.now c.self.view_is
    c.args.from c.args.to c.args.numbered c.put.result c.put.ensures.queue c.put.ensures.err c.put.ensures.others
    c.self.invariant c.requires

pub returns-clause-queue : goal.returns-clause-queue
returns-clause-queue c = queue_put c.self.inside.pool c.self.inside.queues c.put.new.self c.args.self.now c.self.view_is
    c.args.from c.args.to c.args.numbered c.put.result c.put.ensures.queue

pub returns-clause-spare : goal.returns-clause-spare
returns-clause-spare c = spare_put c.self.inside.pool c.self.inside.queues c.put.new.self c.args.self.now c.self.view_is
    c.args.from c.args.to c.args.numbered c.put.result c.put.ensures.spare

pub returns-clause-others : goal.returns-clause-others
returns-clause-others c =
    others_stay c.self.inside.pool c.self.inside.queues c.put.new.self c.args.self.now c.self.view_is c.args.from
    c.args.to c.put.ensures.others
