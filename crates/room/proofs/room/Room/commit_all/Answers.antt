use Rattle.std.proofs.Common.{rules, ◌≡◌, length, List, [], ◌∷◌, ◌++◌, Some, All, refl, subst, sym, ap, ◌∙◌, append_assoc, append-nil}
use Rattle.std.proofs.lemmas.List.Elements.{All-head, All-tail}
use Rattle.std.proofs.lemmas.List.{nil_from_length}
use Rattle.net_prefix.specs.declared.addr.Addr.{Addr}
use Rattle.room.specs.Books.{SeatBook}
use Rattle.room.specs.Jobs.{Job, IsSeenIn, AreTakenTogether}
use Rattle.room.specs.Commits.{AreCommitted}
use Rattle.room.proofs.InTurn.{committed_push, goes_on_all}
use Rattle.room.proofs.Known.{IsKnown, none_known, known_site, site_known}
use Rattle.room.proofs.room.Room.commit_all.Goals as goal

pub loop-done-init : goal.loop-done-init
loop-done-init g c =
    let all : c.args.outcomes ≡ c.into_iter-done-iterator.result.rest.items = search rules in
    let together : AreTakenTogether c.into_iter-done-iterator.result.rest.items =
    subst AreTakenTogether (sym c.into_iter-done-iterator.ensures.into_iter_gives.0)
    c.into_vec-done-items.ensures.together in
    (tt, tt, ([], all, (refl, refl)), (together.0, together.1, none_known together.0 c.args.self.now))

pub commit_one-requires : goal.commit_one-requires
commit_one-requires g c known =
    let room = c.loop-done.invariant.3.0 in
    let x = c.in-Some.done in
    let rest = c.next.new.self.rest.items in
    let all : All (IsSeenIn room) (x ∷ rest) =
    subst (All (IsSeenIn room)) c.in-Some.ensures.steps.0 c.loop-done.invariant.3.1 in
    known_site room c.loop-done.self c.loop-done.known x c.loop-done.invariant.3.2 (All-head (IsSeenIn room) x rest all)
    (c.is_receiver-is_known.ensures known ∙ ap (λ (e : Addr × Addr). Some e.1) c.ends.ensures)

pub returns-in-Err-clause-broken_off : goal.returns-in-Err-clause-broken_off
returns-in-Err-clause-broken_off g c =
    let first = c.loop-done.invariant.2.0 in
    record {
      first = first;
      wanting = c.in-Some.done;
      others = c.next.new.self.rest.items;
      parts = c.loop-done.invariant.2.1 ∙ ap (λ (w : List Job). first ++ w) c.in-Some.ensures.steps.0;
      next = c.loop-done.self;
      after = c.loop-done.seat;
      committed = c.loop-done.invariant.2.2;
      version = c.in-Err.ensures.version;
      left = c.in-Err.ensures.left;
    }

pub returns-in-Err-clause-seat : goal.returns-in-Err-clause-seat
returns-in-Err-clause-seat g c =
    let first = c.loop-done.invariant.2.0 in
    goes_on_all c.args.self.now c.args.seat.now first c.loop-done.self c.commit_one.new.seat
    (subst (λ (s : SeatBook). AreCommitted c.args.self.now c.args.seat.now first c.loop-done.self s)
    (sym c.in-Err.ensures.left.notes) c.loop-done.invariant.2.2)

pub loop-done-preserved-then-is_same : goal.loop-done-preserved-then-is_same
loop-done-preserved-then-is_same g c =
    let room = c.loop-done.invariant.3.0 in
    let first = c.loop-done.invariant.2.0 in
    let x = c.in-Some.done in
    let rest = c.next.new.self.rest.items in
    let now = c.commit_one.new.self in
    let all : All (IsSeenIn room) (x ∷ rest) =
    subst (All (IsSeenIn room)) c.in-Some.ensures.steps.0 c.loop-done.invariant.3.1 in
    let known : IsKnown room now (Some x.direction.to) =
    site_known room now x (All-head (IsSeenIn room) x rest all)
    (c.in-Ok.ensures.site (sym c.is_delivered-is_same.ensures ∙ c.if-is_same.true)) in (
      tt,
      tt,
      (
        first ++ x ∷ [],
        c.loop-done.invariant.2.1 ∙ ap (λ (w : List Job). first ++ w) c.in-Some.ensures.steps.0
            ∙ sym (append_assoc first (x ∷ []) rest),
        committed_push c.args.self.now c.args.seat.now first x c.loop-done.self c.loop-done.seat c.in-Ok.committed now
            c.commit_one.new.seat c.loop-done.invariant.2.2 c.in-Ok.ensures.committed,
      ),
      (
        room,
        All-tail (IsSeenIn room) x rest all,
        subst (λ (e : Addr × Addr). IsKnown room now (Some e.1)) (sym c.ends.ensures) known,
      ),
    )

pub loop-done-preserved : goal.loop-done-preserved
loop-done-preserved g c =
    let room = c.loop-done.invariant.3.0 in
    let first = c.loop-done.invariant.2.0 in
    let x = c.in-Some.done in
    let rest = c.next.new.self.rest.items in
    let now = c.commit_one.new.self in
    let all : All (IsSeenIn room) (x ∷ rest) =
    subst (All (IsSeenIn room)) c.in-Some.ensures.steps.0 c.loop-done.invariant.3.1 in (
      tt,
      tt,
      (
        first ++ x ∷ [],
        c.loop-done.invariant.2.1 ∙ ap (λ (w : List Job). first ++ w) c.in-Some.ensures.steps.0
            ∙ sym (append_assoc first (x ∷ []) rest),
        committed_push c.args.self.now c.args.seat.now first x c.loop-done.self c.loop-done.seat c.in-Ok.committed now
            c.commit_one.new.seat c.loop-done.invariant.2.2 c.in-Ok.ensures.committed,
      ),
      (room, All-tail (IsSeenIn room) x rest all, none_known room now),
    )

pub returns-clause-committed : goal.returns-clause-committed
returns-clause-committed g c =
    let first = c.loop-done.invariant.2.0 in
    let left : List Job = c.loop-done.done-iterator.rest.items in
    let none : length left ≡ 0 = search rules in
    let all : first ≡ c.args.outcomes = sym (append-nil first)
    ∙ ap (λ (w : List Job). first ++ w) (sym (nil_from_length left none)) ∙ sym c.loop-done.invariant.2.1 in
    subst (λ (w : List Job). AreCommitted c.args.self.now c.args.seat.now w c.loop-done.self c.loop-done.seat) all
    c.loop-done.invariant.2.2

pub returns-clause-seat : goal.returns-clause-seat
returns-clause-seat g c =
    goes_on_all c.args.self.now c.args.seat.now c.loop-done.invariant.2.0 c.loop-done.self c.loop-done.seat
    c.loop-done.invariant.2.2
