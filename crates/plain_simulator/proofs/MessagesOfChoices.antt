-- What is worked out once for a router gives what it sends.
use Rattle.std.proofs.Common.{◌≡◌, Bool, true, List, [], ◌∷◌, ◌++◌, map, Option, Some, if◌then◌else◌, refl, sym, ap, ◌∙◌}
use Rattle.std.specs.List.{filter_map, cons_option}
use Rattle.net_prefix.specs.declared.addr.Addr.{Addr}
use Rattle.net_conf.specs.Costs.{is_up}
use Rattle.reference_machine.specs.Network.{Network}
use Rattle.reference_machine.specs.Advertising.{prefixes_at, in_order, changes, advertised, sends, sent}
use Rattle.plain_simulator.specs.Choices.{prefix_choices, router_choices, message_of, messages_of, AreChoices}
use Rattle.plain_simulator.specs.declared.choices.RouterChoices.{RouterChoices}

pub filter_map_map : {X Y Z : Type 0} (h : Y → Option Z) (f : X → Y) (xs : List X) →
    filter_map h (map f xs) ≡ filter_map (λ x. h (f x)) xs
filter_map_map h f [] = refl
filter_map_map h f (x ∷ xs) = ap (cons_option (h (f x))) (filter_map_map h f xs)

-- the messages of a router's choices are the changes of what it advertises
pub messages_are_changes : (s s' : Network) (r t : Addr) →
    messages_of (is_up s.conf r t) (is_up s'.conf r t) (router_choices s s' r) t ≡ changes s s' r t
unfolding router_choices changes advertised
messages_are_changes s s' r t =
    filter_map_map (message_of (is_up s.conf r t) (is_up s'.conf r t) (router_choices s s' r) t) (prefix_choices s s' r)
    (in_order (prefixes_at s r ++ prefixes_at s' r))

-- the router of a router's choices
pub router_of_choices : (s s' : Network) (r : Addr) → (router_choices s s' r).router ≡ r
unfolding router_choices
router_of_choices s s' r = refl

-- and so what is sent, where the router sends
pub sent_by_choices : (s s' : Network) (r t : Addr) (was is : Bool) (choices : RouterChoices) →
    sends s'.conf r t ≡ true → was ≡ is_up s.conf r t → is ≡ is_up s'.conf r t → choices ≡ router_choices s s' r →
    messages_of was is choices t ≡ sent s s' r t
unfolding sent
sent_by_choices s s' r t was is choices up w i ts =
    ap (λ b. messages_of b is choices t) w
    ∙ ap (λ b. messages_of (is_up s.conf r t) b choices t) i
    ∙ ap (λ x. messages_of (is_up s.conf r t) (is_up s'.conf r t) x t) ts
    ∙ messages_are_changes s s' r t
    ∙ sym (ap (λ b. if b then changes s s' r t else []) up)

-- the choices of a router are right to keep
pub kept_choices : (s s' : Network) (r : Addr) (choices : RouterChoices) → choices ≡ router_choices s s' r →
    AreChoices s s' (Some choices)
kept_choices s s' r choices is = is ∙ ap (router_choices s s') (sym (ap (λ t. t.router) is ∙ router_of_choices s s' r))
