-- Each route that comes over a session has a path that is empty or begins with a sequence, and from another AS with the
-- sender's.
use Rattle.std.proofs.Common.{◌≡◌, inl, inr, ⊎_elim, true, Some, option_map, sym, ap, ◌∙◌}
use Rattle.std.proofs.lemmas.Bool.{true≢false}
use Rattle.net_prefix.specs.declared.addr.Addr.{Addr}
use Rattle.path_attr.specs.declared.attr.Attr.{Attr}
use Rattle.path_attr.specs.Path.{neighbour, holds}
use Rattle.net_conf.specs.declared.edit.Edit.{Edit}
use Rattle.net_conf.specs.declared.tables.Node.{Node}
use Rattle.net_conf.specs.Configuration.{Configuration, node_at, as_of, is_external}
use Rattle.net_conf.specs.Edits.{edited}
use Rattle.sim_event.specs.declared.event.FedRoute.{FedRoute}
use Rattle.reference_machine.specs.Machine.{fed_attr}
use Rattle.session_law.specs.RouteLaws.{HasSendersPath, SendersPathLaw}
use Rattle.session_law.proofs.Configs.{Passes, as_kept, external_kept, external_either, one_as}
use Rattle.session_law.proofs.Foreign.{ArePlaced}
use Rattle.session_law.proofs.Adverts.{GoesOut, IsOwn, ComesIn, IsReflected}
use Rattle.session_law.proofs.Carried.{AreEnds, node_of, carried_after, each_route}

fed : (c : Configuration) (v t : Addr) (r : FedRoute) → AreEnds c v t → is_external c v t ≡ true →
    neighbour r.path ≡ as_of c v → HasSendersPath c v t (fed_attr v r)
fed c v t r ends external first =
    let node = node_of (node_at c v) ends.sender in
    let is : as_of c v ≡ Some node.0.asn = ap (option_map (λ n. n.asn)) node.1 in
    record {
      outside = λ _. (node.0.asn, is, first ∙ is);
      inside = λ internal. absurd (true≢false (sym external ∙ internal));
      clear = λ internal. absurd (true≢false (sym external ∙ internal));
    }

after : (c : Configuration) (e : Edit) → Passes c e → ArePlaced c → (a b : Addr) (attr : Attr) → AreEnds c a b →
    HasSendersPath c a b attr → HasSendersPath (edited c e) a b attr
after c e ok placed a b attr ends has =
    let same = external_kept c e ok a b ends.sender ends.receiver in
    record {
      outside = λ external. let old = has.outside (sym same ∙ external) in
          (old.0, as_kept c e ok a ends.sender ∙ old.1, old.2);
      inside = λ internal. has.inside (sym same ∙ internal);
      clear = λ internal n is. has.clear (sym same ∙ internal) n (sym (as_kept c e ok b ends.receiver) ∙ is);
    }

out : (c : Configuration) (r t : Addr) (n : Node) (attr : Attr) → node_at c r ≡ Some n → GoesOut c r t n attr →
    HasSendersPath c r t attr
out c r t n attr here goes = record {
  outside = λ external. (n.asn, ap (option_map (λ x. x.asn)) here, goes.path);
  inside = λ internal. absurd (true≢false (sym goes.outside ∙ internal));
  clear = λ internal. absurd (true≢false (sym goes.outside ∙ internal));
}

own : (c : Configuration) (r t : Addr) (attr : Attr) → AreEnds c r t → IsOwn c r t attr → HasSendersPath c r t attr
own c r t attr ends is = record {
  outside = λ external. absurd (true≢false (sym external ∙ is.inside));
  inside = λ internal. inl is.path;
  clear = λ internal n here. ap (holds n) is.path;
}

entered : (c : Configuration) (r t u : Addr) (old attr : Attr) → AreEnds c r t → AreEnds c u r →
    HasSendersPath c u r old → ComesIn c r t u old attr → HasSendersPath c r t attr
entered c r t u old attr to from has is = record {
  outside = λ external. absurd (true≢false (sym external ∙ is.inside));
  inside = λ internal. let first = has.outside (external_either c u r ∙ is.outside) in
      inr (first.0, ap neighbour is.path ∙ first.2);
  clear = λ internal n here. ap (holds n) is.path ∙ is.clear n (one_as c r t internal ∙ here);
}

back : (c : Configuration) (r t u : Addr) (old attr : Attr) → AreEnds c r t → AreEnds c u r → HasSendersPath c u r old →
    IsReflected c r t u old attr → HasSendersPath c r t attr
back c r t u old attr to from has is =
    let within = external_either c u r ∙ is.within in
    record {
      outside = λ external. absurd (true≢false (sym external ∙ is.inside));
      inside = λ internal. ⊎_elim (λ none. inl (is.path ∙ none)) (λ first. inr (
        first.0,
        ap neighbour is.path
            ∙ first.1,
      )) (has.inside within);
      clear = λ internal n here. ap (holds n) is.path ∙ has.clear within n (one_as c r t internal ∙ here);
    }

pub senders_path_law : SendersPathLaw
senders_path_law es rs s run =
    each_route HasSendersPath (HasSendersPath s.conf) s (λ a b attr ends has. has)
    (carried_after HasSendersPath (record {
      fed = fed;
      after = after;
      out = out;
      own = own;
      entered = entered;
      back = back;
    }) es rs s run)
