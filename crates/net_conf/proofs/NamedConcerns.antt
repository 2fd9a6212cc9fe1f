-- An edit of no link concerns those whom it names, and turns its own session alone.
use Rattle.std.proofs.Common.{◌||◌, ◌≡◌, true, false, Option, Some, None, refl, sym, ap, ◌∙◌}
use Rattle.std.specs.Cmp.{unsigned_ties}
use Rattle.std.specs.List.Sorted.{IsStrictlySortedBy}
use Rattle.std.specs.Map.{keys_of}
use Rattle.std.specs.BTreeMap.{is_at}
use Rattle.std.proofs.lemmas.Option.{none-some}
use Rattle.net_prefix.specs.declared.addr.Addr.{Addr}
use Rattle.net_prefix.specs.Address.{addr_cmp}
use Rattle.igp_cost.specs.Laws.{LoneNodeMovesNoTree}
use Rattle.net_conf.specs.declared.edit.Edit.{Edit}
use Rattle.net_conf.specs.declared.edit.Edit.TheVariants.{Router, Virtual, Link, Metric, Fail, Mend, Join, Stop, Start, Client, OwnNext, Cluster, MedAlways, Rule as AddRule, Clear, Origin, NoOrigin}
use Rattle.net_conf.specs.declared.tables.PolicySide.TheVariants.{Import, Export}
use Rattle.net_conf.specs.Configuration.{Configuration, ends_session}
use Rattle.net_conf.specs.Costs.{is_up, down_sessions}
use Rattle.net_conf.specs.Concerned.{StaysAt}
use Rattle.net_conf.specs.Edits.{edited, refusal_of}
use Rattle.net_conf.specs.Kept.{IsSound, link_in, node_in, session_in}
use Rattle.net_conf.specs.Scopes.{scope, router_in}
use Rattle.net_conf.proofs.Concerns.{settings_concern}
use Rattle.net_conf.proofs.NodeConcerns.{node_concerns, same_up}
use Rattle.net_conf.proofs.OthersStay.{sessions_stay}
use Rattle.net_conf.proofs.DownSessions.{same_down}
use Rattle.net_conf.proofs.SessionConcerns.{session_concerns}
use Rattle.net_conf.proofs.TreesAfter.{node_is_new, others_stay, joined_after, ends_joined}

-- the edit names not the router
pub record NamesNot (e : Edit) (r : Addr) : Type 0 where
  pub router : (a : Addr) → router_in (scope e) ≡ Some a → is_at (addr_cmp r) a ≡ false
  pub node : (a : Addr) → node_in e ≡ Some a → is_at (addr_cmp r) a ≡ false
  pub session : (a b : Addr) → session_in e ≡ Some (a, b) → (is_at (addr_cmp r) a ≡ false)
      × (is_at (addr_cmp r) b ≡ false)

-- an edit of neither a link nor a session makes no session
sessions_as_before : (c : Configuration) (e : Edit) → link_in e ≡ None → session_in e ≡ None →
    (edited c e).sessions ≡ c.sessions
sessions_as_before c (Router a n) link own = refl
sessions_as_before c (Virtual a n) link own = refl
sessions_as_before c (Link a b m) link own = absurd (none-some _ (sym link))
sessions_as_before c (Metric a b m) link own = absurd (none-some _ (sym link))
sessions_as_before c (Fail a b) link own = absurd (none-some _ (sym link))
sessions_as_before c (Mend a b) link own = absurd (none-some _ (sym link))
sessions_as_before c (Join a b) link own = absurd (none-some _ (sym own))
sessions_as_before c (Stop a b) link own = absurd (none-some _ (sym own))
sessions_as_before c (Start a b) link own = absurd (none-some _ (sym own))
sessions_as_before c (Client a b on) link own = refl
sessions_as_before c (OwnNext a b on) link own = refl
sessions_as_before c (Cluster a id) link own = refl
sessions_as_before c (MedAlways a on) link own = refl
sessions_as_before c (AddRule a b Import rule) link own = refl
sessions_as_before c (AddRule a b Export rule) link own = refl
sessions_as_before c (Clear a b Import) link own = refl
sessions_as_before c (Clear a b Export) link own = refl
sessions_as_before c (Origin a p) link own = refl
sessions_as_before c (NoOrigin a p) link own = refl

module _ (law : LoneNodeMovesNoTree) (c : Configuration) (sound : IsSound c)
    (sorted : IsStrictlySortedBy addr_cmp (keys_of c.nodes)) (r : Addr) where
  settings : (e : Edit) (a : Addr) → router_in (scope e) ≡ Some a → NamesNot e r → StaysAt c (edited c e) r
  settings e a is out = settings_concern c e a r is (unsigned_ties r.0 a.0 ∙ out.router a is)

  pub named_concerns : (e : Edit) → refusal_of c e ≡ None → link_in e ≡ None → NamesNot e r → StaysAt c (edited c e) r
  named_concerns (Router a n) none link out =
      node_concerns law c a _ sound sorted (node_is_new c (Router a n) none) r (out.node a refl)
  named_concerns (Virtual a n) none link out =
      node_concerns law c a _ sound sorted (node_is_new c (Virtual a n) none) r (out.node a refl)
  named_concerns (Link a b m) none link out = absurd (none-some _ (sym link))
  named_concerns (Metric a b m) none link out = absurd (none-some _ (sym link))
  named_concerns (Fail a b) none link out = absurd (none-some _ (sym link))
  named_concerns (Mend a b) none link out = absurd (none-some _ (sym link))
  named_concerns (Join a b) none link out = let ends = out.session a b refl in
      session_concerns c a b r true ends.0 ends.1
  named_concerns (Stop a b) none link out = let ends = out.session a b refl in
      session_concerns c a b r false ends.0 ends.1
  named_concerns (Start a b) none link out = let ends = out.session a b refl in
      session_concerns c a b r true ends.0 ends.1
  named_concerns (Client a b on) none link out = settings (Client a b on) a refl out
  named_concerns (OwnNext a b on) none link out = settings (OwnNext a b on) a refl out
  named_concerns (Cluster a id) none link out = settings (Cluster a id) a refl out
  named_concerns (MedAlways a on) none link out = settings (MedAlways a on) a refl out
  named_concerns (AddRule a b side rule) none link out = settings (AddRule a b side rule) a refl out
  named_concerns (Clear a b side) none link out = settings (Clear a b side) a refl out
  named_concerns (Origin a p) none link out = settings (Origin a p) a refl out
  named_concerns (NoOrigin a p) none link out = settings (NoOrigin a p) a refl out

  -- who is not named ends a session as before
  pub ends_not_named : (e : Edit) → refusal_of c e ≡ None → link_in e ≡ None → NamesNot e r →
      ends_session (edited c e) r ≡ ends_session c r
  ends_not_named e none link out = by (session_in e) refl
    where
      by : (o : Option (Addr × Addr)) → session_in e ≡ o → ends_session (edited c e) r ≡ ends_session c r
      by None is = (others_stay law c e sound sorted (node_is_new c e none) link is).ends r
      by (Some p) is =
          let ends = out.session p.0 p.1 is in
          ends_joined c (edited c e) p.0 p.1 (joined_after c e p.0 p.1 is) r
          ∙ (λ i. (ends.0 i || ends.1 i) || ends_session c r)

-- without a session of its own it turns none
module _ (law : LoneNodeMovesNoTree) (c : Configuration) (sound : IsSound c)
    (sorted : IsStrictlySortedBy addr_cmp (keys_of c.nodes)) where
  up_as_before : (e : Edit) → refusal_of c e ≡ None → link_in e ≡ None → session_in e ≡ None → (u v : Addr) →
      is_up (edited c e) u v ≡ is_up c u v
  up_as_before (Router a n) none link own u v = same_up law c a _ sound sorted (node_is_new c (Router a n) none) u v
  up_as_before (Virtual a n) none link own u v = same_up law c a _ sound sorted (node_is_new c (Virtual a n) none) u v
  up_as_before (Link a b m) none link own u v = absurd (none-some _ (sym link))
  up_as_before (Metric a b m) none link own u v = absurd (none-some _ (sym link))
  up_as_before (Fail a b) none link own u v = absurd (none-some _ (sym link))
  up_as_before (Mend a b) none link own u v = absurd (none-some _ (sym link))
  up_as_before (Join a b) none link own u v = absurd (none-some _ (sym own))
  up_as_before (Stop a b) none link own u v = absurd (none-some _ (sym own))
  up_as_before (Start a b) none link own u v = absurd (none-some _ (sym own))
  up_as_before (Client a b on) none link own u v = sessions_stay c (Client a b on) a u v refl
  up_as_before (OwnNext a b on) none link own u v = sessions_stay c (OwnNext a b on) a u v refl
  up_as_before (Cluster a id) none link own u v = sessions_stay c (Cluster a id) a u v refl
  up_as_before (MedAlways a on) none link own u v = sessions_stay c (MedAlways a on) a u v refl
  up_as_before (AddRule a b side rule) none link own u v = sessions_stay c (AddRule a b side rule) a u v refl
  up_as_before (Clear a b side) none link own u v = sessions_stay c (Clear a b side) a u v refl
  up_as_before (Origin a p) none link own u v = sessions_stay c (Origin a p) a u v refl
  up_as_before (NoOrigin a p) none link own u v = sessions_stay c (NoOrigin a p) a u v refl

  pub down_as_before : (e : Edit) → refusal_of c e ≡ None → link_in e ≡ None → session_in e ≡ None →
      down_sessions (edited c e) ≡ down_sessions c
  down_as_before e none link own = same_down c (edited c e) (ap (λ es. keys_of es) (sessions_as_before c e link own))
      (up_as_before e none link own)
