use Rattle.std.proofs.Common.{◌≡◌, ◌∙◌, Bool, List, map, filter, ap}
use Rattle.std.proofs.lemmas.Result.{IfOk-weaker}
use Rattle.net_prefix.specs.declared.addr.Addr.{Addr}
use Rattle.net_conf.specs.declared.tables.Ends.{Ends}
use Rattle.shared_map.specs.EntryChunks.{entries_in}
use Rattle.net_conf.specs.Configuration.{is_end}
use Rattle.net_conf.specs.Sites.{peer_in}
use Rattle.net_conf.proofs.tables.session_table.SessionTable.peers_of.Goals as goal

pub returns : goal.returns
returns c =
    let peers : List (Ends × Bool) →
    List Addr = λ es. map (λ e. peer_in c.args.addr e.0) (filter (λ e. is_end c.args.addr e.0) es) in
    IfOk-weaker c.peers_of.result (λ v. v.items ≡ peers (entries_in c.chunks.result.now))
    (λ v. v.items ≡ peers c.args.self.now) (λ v is. is
    ∙ ap peers (c.chunks.ensures ∙ c.self.view_is)) c.peers_of.ensures
