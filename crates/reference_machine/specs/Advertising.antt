-- What a router advertises to its peers, and what it sends when that changes (RFC 4271, 9.1.3 and 9.2).
use Rattle.std.specs.Prelude.{◌≡◌, Bool, true, not, ◌&&◌, List, [], ◌++◌, map, fold, Option, Some, None, option_and_then, if◌then◌else◌}
use Rattle.std.specs.List.{filter_map}
use Rattle.std.specs.BTreeSet.{insert_key}
use Rattle.net_prefix.specs.declared.addr.Addr.{Addr}
use Rattle.net_prefix.specs.Prefix.{Prefix, prefix_cmp}
use Rattle.path_attr.specs.declared.attr.Attr.{Attr}
use Rattle.path_attr.specs.Attribute.{same_attr}
use Rattle.net_conf.specs.Configuration.{Configuration, has_node, is_virtual, origins_of}
use Rattle.net_conf.specs.Costs.{is_up}
use Rattle.net_conf.specs.declared.site.SiteConf.{SiteConf}
use Rattle.net_conf.specs.Sites.{site_of}
use Rattle.route_select.specs.declared.candidate.Candidate.{Candidate}
use Rattle.reflect_out.specs.Advertising.{advert}
use Rattle.session_queue.specs.declared.message.Message.{Message}
use Rattle.session_queue.specs.declared.message.Message.TheVariants.{Update, Withdraw}
use Rattle.reference_machine.specs.Network.{Network, received_by}
use Rattle.reference_machine.specs.Decision.{best}

-- what the router of the site advertises to the peer of the route that it chose, if it chose one: nothing while their
-- session is down
abbrev pub advert_of : Bool → Option SiteConf → Addr → Prefix → Option Candidate → Option Attr
advert_of up site t p chosen = if up then option_and_then (λ b. option_and_then (λ here. advert here p b t) site) chosen
    else None

-- the router's Adj-RIB-Out for the peer (RFC 4271, 3.2), decided afresh
unfoldable pub advertised : Network → Addr → Addr → Prefix → Option Attr
advertised s r t p = advert_of (is_up s.conf r t) (site_of s.conf r) t p (best s r p)

-- the message that leads from what was advertised to what is advertised now: none where that is the same
abbrev pub change_of : Prefix → Option Attr → Option Attr → Option Message
change_of p None None = None
change_of p (Some old) None = Some (Withdraw p)
change_of p None (Some new) = Some (Update p new)
change_of p (Some old) (Some new) = if same_attr old new then None else Some (Update p new)

-- the prefixes that the router originates or has received, as they come
abbrev pub prefixes_at : Network → Addr → List Prefix
prefixes_at s r = origins_of s.conf r ++ map (λ e. e.0.prefix) (received_by r s.received)

-- each prefix once, in order of address, then length
abbrev pub in_order : List Prefix → List Prefix
in_order ps = fold (λ qs p. insert_key prefix_cmp qs p) [] ps

-- a router stands at the address, and its session with the peer is up; a virtual peer sends nothing by itself (own)
abbrev pub sends : Configuration → Addr → Addr → Bool
sends c r t = has_node c r && not (is_virtual c r) && is_up c r t

-- a message for each prefix at which what the router advertises to the peer changes, in order
unfoldable pub changes : Network → Network → Addr → Addr → List Message
changes s s' r t = filter_map (λ p. change_of p (advertised s r t p) (advertised s' r t p))
    (in_order (prefixes_at s r ++ prefixes_at s' r))

-- what is sent in a direction when s becomes s'
unfoldable pub sent : Network → Network → Addr → Addr → List Message
sent s s' r t = if sends s'.conf r t then changes s s' r t else []

-- a virtual peer sends nothing by itself, whatever becomes of the state: no message depends on what is said above of
-- one
abbrev pub PeersSendNothing : Type 0
PeersSendNothing = (s s' : Network) (r t : Addr) → is_virtual s'.conf r ≡ true → sent s s' r t ≡ []
