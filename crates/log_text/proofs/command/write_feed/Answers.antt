use Rattle.std.proofs.Common.{◌≡◌, ℕ, List, [], ◌∷◌, ◌++◌, codes, sym, ap, ◌∙◌}
use Rattle.std.specs.List.{join_with_byte}
use Rattle.net_prefix.specs.declared.addr.Addr.{Addr}
use Rattle.net_prefix.specs.Address.{addr_text}
use Rattle.net_prefix.specs.Prefix.{prefix_text}
use Rattle.sim_event.specs.declared.event.FedRoute.{FedRoute}
use Rattle.sim_event.specs.declared.event.News.{News}
use Rattle.sim_event.specs.declared.event.News.TheVariants.{Update}
use Rattle.sim_event.specs.Wording.{maybe_number_text, origin_text, path_text}
use Rattle.command_text.specs.Words.{communities_words, news_words}
use Rattle.reply_text.specs.Pieces.{writes_same, writes_cut, writes_next}
use Rattle.log_text.specs.Rules.{spaced}
use Rattle.log_text.proofs.Spaces.{join_more}
use Rattle.log_text.proofs.command.write_feed.Goals as goal

-- the words after the first one, but for the communities
abbrev route_words : Addr → Addr → FedRoute → List (List ℕ)
route_words a b r = addr_text a ∷ addr_text b ∷ codes "update" ∷ prefix_text r.prefix ∷ path_text r.path
    ∷ origin_text r.origin ∷ maybe_number_text r.med ∷ []

abbrev route_text : Addr → Addr → FedRoute → List ℕ
route_text a b r = join_with_byte 32 (codes "feed" ∷ route_words a b r)

-- the communities stand after the other words
two_pieces : (a b : Addr) (n : News) (r : FedRoute) → n ≡ Update r
    → join_with_byte 32 (codes "feed" ∷ addr_text a ∷ addr_text b ∷ news_words n) ≡ route_text a b r
    ++ spaced (communities_words r.comms)
two_pieces a b n r is =
    ap (λ x. join_with_byte 32 (codes "feed" ∷ addr_text a ∷ addr_text b ∷ news_words x)) is
    ∙ join_more (codes "feed") (route_words a b r) (communities_words r.comms)

pub returns-in_err-write_route-in-Update : goal.returns-in_err-write_route-in-Update
returns-in_err-write_route-in-Update g c =
    let f = c.args.feed.now in
    let route = c.in-Update.route in
    let r = c.from_residual.result in
    writes_same c.args.output.now c.write_route.new.output _ _ r (two_pieces f.from f.to f.news route c.in-Update.is)
    (writes_cut c.args.output.now c.write_route.new.output (route_text f.from f.to route)
    (spaced (communities_words route.comms)) r c.from_residual.ensures.0 c.in_err-write_route-in-Update.ensures)

pub returns-in_ok-write_route-in-Update : goal.returns-in_ok-write_route-in-Update
returns-in_ok-write_route-in-Update g c =
    let f = c.args.feed.now in
    let route = c.in-Update.route in
    let r = c.write_communities.result in
    let same = ap (λ cs. route_text f.from f.to route ++ spaced (communities_words cs)) c.numbers.ensures.value in
    writes_same c.args.output.now c.write_communities.new.output _ _ r
    (two_pieces f.from f.to f.news route c.in-Update.is ∙ sym same)
    (writes_next c.args.output.now c.write_route.new.output c.write_communities.new.output
    (route_text f.from f.to route) (spaced (communities_words c.numbers.result.now)) r
    c.in_ok-write_route-in-Update.ensures c.write_communities.ensures)
