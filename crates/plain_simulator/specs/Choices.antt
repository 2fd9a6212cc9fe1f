-- What is worked out once for each router in a step. No public contract cites this file.
use Rattle.std.specs.Prelude.{◌≡◌, Bool, List, ◌++◌, map, Option, IfSome}
use Rattle.std.specs.List.{filter_map}
use Rattle.net_prefix.specs.declared.addr.Addr.{Addr}
use Rattle.net_prefix.specs.Prefix.{Prefix}
use Rattle.net_conf.specs.Sites.{site_of}
use Rattle.session_queue.specs.declared.message.Message.{Message}
use Rattle.plain_simulator.specs.declared.choices.PrefixChoices.{PrefixChoices}
use Rattle.plain_simulator.specs.declared.choices.RouterChoices.{RouterChoices}
use Rattle.reference_machine.specs.Network.{Network}
use Rattle.reference_machine.specs.Decision.{best}
use Rattle.reference_machine.specs.Advertising.{prefixes_at, in_order, advert_of, change_of}

-- what the router chooses for the prefix in s, and in s'
abbrev pub prefix_choices : Network → Network → Addr → Prefix → PrefixChoices
prefix_choices s s' r p = record { prefix = p; old = best s r p; new = best s' r p }

-- the router's site and choices in s, and in s'
unfoldable pub router_choices : Network → Network → Addr → RouterChoices
router_choices s s' r = record {
  router = r;
  old_site = site_of s.conf r;
  new_site = site_of s'.conf r;
  by_prefix = map (prefix_choices s s' r) (in_order (prefixes_at s r ++ prefixes_at s' r));
}

-- what is kept of one router is right
abbrev pub AreChoices : Network → Network → Option RouterChoices → Type 0
AreChoices s s' kept = IfSome kept (λ choices. choices ≡ router_choices s s' choices.router)

-- the message that the choices for a prefix take, if they take one
abbrev pub message_of : Bool → Bool → RouterChoices → Addr → PrefixChoices → Option Message
message_of was is choices t choice = change_of choice.prefix (advert_of was choices.old_site t choice.prefix choice.old)
    (advert_of is choices.new_site t choice.prefix choice.new)

abbrev pub messages_of : Bool → Bool → RouterChoices → Addr → List Message
messages_of was is choices t = filter_map (message_of was is choices t) choices.by_prefix
