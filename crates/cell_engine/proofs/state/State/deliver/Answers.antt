use Rattle.std.proofs.Common.{◌≡◌, ◌≤◌, true, length, slice_get, is_some, Option, Some, None, Result, Ok, Err, OnErr, option_copied, refl, ap, sym, subst, ◌∙◌}
use Rattle.std.specs.Borrow.{Bor}
use Rattle.net_prefix.specs.declared.addr.Addr.{Addr}
use Rattle.net_prefix.specs.Prefix.{Prefix, MakePrefix}
use Rattle.session_queue.specs.Telling.{prefix_of}
use Rattle.session_queue.specs.Waiting.{queue_at}
use Rattle.net_conf.specs.Costs.{is_up}
use Rattle.net_conf.specs.Configuration.{Configuration}
use Rattle.net_conf.specs.RouterSites.{router_site, site_kept}
use Rattle.net_conf.specs.declared.site.SiteConf.{SiteConf}
use Rattle.net_conf.proofs.KeepsSites.{kept_there}
use Rattle.net_conf.proofs.KeptTrees.{session_ends, session_turned}
use Rattle.net_conf.proofs.RouterLaws.{site_of_router, site_sessions_in_order}
use Rattle.reference_machine.specs.Network.{messages_in}
use Rattle.reference_machine.specs.Machine.{head_step}
use Rattle.cell_engine.specs.Cells.{IsDecided}
use Rattle.cell_engine.specs.State.{State, cell_at, network}
use Rattle.cell_engine.specs.Sending.{told}
use Rattle.cell_engine.specs.Deliveries.{outcome_by}
use Rattle.cell_engine.proofs.Decided.{cell_decided}
use Rattle.cell_engine.proofs.Delivered.{outcome_tells_one}
use Rattle.cell_engine.proofs.DeliveredInPlace.{next_then, prefixes_then, sound_then, ups_then}
use Rattle.cell_engine.proofs.Directions.{session_if_up}
use Rattle.cell_engine.proofs.Queues.{network_same}
use Rattle.cell_engine.proofs.state.State.deliver.Goals as goal

-- who ends a session that is up has its site kept
site_is : (c k : Configuration) (a b : Addr) (site : Option SiteConf) → k ≡ c → site ≡ site_kept k b →
    is_up c a b ≡ true → site ≡ router_site c b
site_is c k a b site same is up =
    is ∙ ap (λ x. site_kept x b) same
    ∙ kept_there c b (session_ends c b a (session_turned c a b (session_if_up c a b up)))

pub deliver_to_entry-requires-clause-decided : goal.deliver_to_entry-requires-clause-decided
deliver_to_entry-requires-clause-decided g c =
    let e : State = record {
      conf = c.self.inside.conf;
      tables = c.self.inside.tables;
      directions = c.self.inside.directions;
      queues = c.self.inside.queues;
    } in
    let site = site_is c.self.inside.conf c.get.result.now c.args.direction.from c.args.direction.to
    (option_copied c.kept_site-site.result) c.get.ensures c.kept_site-site.ensures
    (ap (λ (n : State). is_up n.conf c.args.direction.from c.args.direction.to) c.self.view_is ∙ c.requires.up) in
    let p = prefix_of c.args.message.now in
    subst (λ x. IsDecided x p (cell_at c.args.direction.to p e.tables)) (sym site)
    (cell_decided e c.self.invariant.0 c.args.direction.to p)

pub deliver_to_entry-requires-clause-peers : goal.deliver_to_entry-requires-clause-peers
deliver_to_entry-requires-clause-peers g c s is =
    let site = site_is c.self.inside.conf c.get.result.now c.args.direction.from c.args.direction.to
    (option_copied c.kept_site-site.result) c.get.ensures c.kept_site-site.ensures
    (ap (λ (n : State). is_up n.conf c.args.direction.from c.args.direction.to) c.self.view_is ∙ c.requires.up) in
    site_sessions_in_order c.self.inside.conf c.args.direction.to s c.facts.ensures.configured
    (site_of_router c.self.inside.conf c.args.direction.to s (sym site ∙ is))

pub deliver_to_entry-requires-clause-one : goal.deliver_to_entry-requires-clause-one
deliver_to_entry-requires-clause-one g c t =
    let e : State = record {
      conf = c.self.inside.conf;
      tables = c.self.inside.tables;
      directions = c.self.inside.directions;
      queues = c.self.inside.queues;
    } in
    let site = site_is c.self.inside.conf c.get.result.now c.args.direction.from c.args.direction.to
    (option_copied c.kept_site-site.result) c.get.ensures c.kept_site-site.ensures
    (ap (λ (n : State). is_up n.conf c.args.direction.from c.args.direction.to) c.self.view_is ∙ c.requires.up) in
    let m = c.args.message.now in
    subst (λ x. length (told t
    (outcome_by x (cell_at c.args.direction.to (prefix_of m) e.tables) c.args.direction.from m).sends) ≤ 1)
    (sym site) (outcome_tells_one e c.facts.ensures.configured c.args.direction m t)

anyway : {A F P : Type 0} (r : Result A F) → P → OnErr r P
anyway (Ok x) p = tt
anyway (Err x) p = p

pub returns-in_err-sends-clause-same : goal.returns-in_err-sends-clause-same
returns-in_err-sends-clause-same g c =
    let e : State = record {
      conf = c.self.inside.conf;
      tables = c.self.inside.tables;
      directions = c.self.inside.directions;
      queues = c.self.inside.queues;
    } in
    anyway c.from_residual.result (
    ap (λ ts. network (record e { tables = ts; queues = c.deliver_to_entry.new.queues })) c.in_err-sends.ensures.same
    ∙ network_same e c.deliver_to_entry.new.queues c.deliver_to_entry.ensures.queue
    ∙ ap network c.self.view_is
    )

pub invariant_of-self-2 : goal.invariant_of-self-2
invariant_of-self-2 g c =
    let e : State = record {
      conf = c.self.inside.conf;
      tables = c.self.inside.tables;
      directions = c.self.inside.directions;
      queues = c.self.inside.queues;
    } in
    let site = site_is c.self.inside.conf c.get.result.now c.args.direction.from c.args.direction.to
    (option_copied c.kept_site-site.result) c.get.ensures c.kept_site-site.ensures
    (ap (λ (n : State). is_up n.conf c.args.direction.from c.args.direction.to) c.self.view_is ∙ c.requires.up) in
    let first = ap (λ (n : State). slice_get (queue_at n.queues c.args.direction.from c.args.direction.to) 0)
    c.self.view_is ∙ c.requires.head in
    let up : is_up e.conf c.args.direction.from c.args.direction.to ≡ true =
    ap (λ (n : State). is_up n.conf c.args.direction.from c.args.direction.to) c.self.view_is ∙ c.requires.up in
    let block : MakePrefix (prefix_of c.args.message.now).addr (prefix_of c.args.message.now).len =
    subst (λ (p : Prefix). MakePrefix p.addr p.len) c.prefix.ensures c.len.ensures.block in (
      sound_then e c.self.invariant.0 c.args.direction c.args.message.now (option_copied c.kept_site-site.result) site
          c.deliver_to_entry.new.tables c.in_ok-sends.ensures.cell c.facts.ensures.configured first c.in_ok-sends.sends.items
          c.in_ok-sends.ensures.sends c.deliver_to_entry.new.queues c.pop.new.self c.push_all.new.queues
          c.deliver_to_entry.ensures.queue c.pop.ensures.queue c.pop.ensures.others c.push_all.ensures.queue,
      prefixes_then e c.self.invariant.0 c.args.direction c.args.message.now (option_copied c.kept_site-site.result)
          site c.deliver_to_entry.new.tables c.in_ok-sends.ensures.cell block c.self.invariant.1,
      ups_then e c.self.invariant.0 c.args.direction c.args.message.now (option_copied c.kept_site-site.result) site
          c.deliver_to_entry.new.tables c.in_ok-sends.ensures.cell c.facts.ensures.configured first c.in_ok-sends.sends.items
          c.in_ok-sends.ensures.sends c.deliver_to_entry.new.queues c.pop.new.self c.push_all.new.queues
          c.deliver_to_entry.ensures.queue c.pop.ensures.queue c.pop.ensures.others c.push_all.ensures.queue up
          c.self.invariant.2,
    )

pub returns-clause-next : goal.returns-clause-next
returns-clause-next g c =
    let e : State = record {
      conf = c.self.inside.conf;
      tables = c.self.inside.tables;
      directions = c.self.inside.directions;
      queues = c.self.inside.queues;
    } in
    let site = site_is c.self.inside.conf c.get.result.now c.args.direction.from c.args.direction.to
    (option_copied c.kept_site-site.result) c.get.ensures c.kept_site-site.ensures
    (ap (λ (n : State). is_up n.conf c.args.direction.from c.args.direction.to) c.self.view_is ∙ c.requires.up) in
    let first = ap (λ (n : State). slice_get (queue_at n.queues c.args.direction.from c.args.direction.to) 0)
    c.self.view_is ∙ c.requires.head in
    let up : is_up e.conf c.args.direction.from c.args.direction.to ≡ true =
    ap (λ (n : State). is_up n.conf c.args.direction.from c.args.direction.to) c.self.view_is ∙ c.requires.up in
    let d = c.args.direction in
    next_then e c.self.invariant.0 c.args.direction c.args.message.now (option_copied c.kept_site-site.result) site
    c.deliver_to_entry.new.tables c.in_ok-sends.ensures.cell c.facts.ensures.configured first c.in_ok-sends.sends.items
    c.in_ok-sends.ensures.sends c.deliver_to_entry.new.queues c.pop.new.self c.push_all.new.queues
    c.deliver_to_entry.ensures.queue c.pop.ensures.queue c.pop.ensures.others c.push_all.ensures.queue
    (session_if_up e.conf d.from d.to up)
    ∙ (λ i. (head_step (network (c.self.view_is i)) d (messages_in (network (c.self.view_is i)).queues d)).next)

copied_some : {X : Type 0} (o : Option (Bor X)) → is_some (option_copied o) ≡ is_some o
copied_some None = refl
copied_some (Some x) = refl

pub returns-clause-decides : goal.returns-clause-decides
returns-clause-decides g c =
    let site = site_is c.self.inside.conf c.get.result.now c.args.direction.from c.args.direction.to
    (option_copied c.kept_site-site.result) c.get.ensures c.kept_site-site.ensures
    (ap (λ (n : State). is_up n.conf c.args.direction.from c.args.direction.to) c.self.view_is ∙ c.requires.up) in
    c.is_some-decides.ensures
    ∙ sym (copied_some c.kept_site-site.result)
    ∙ ap is_some (site ∙ ap (λ (n : State). router_site n.conf c.args.direction.to) c.self.view_is)
