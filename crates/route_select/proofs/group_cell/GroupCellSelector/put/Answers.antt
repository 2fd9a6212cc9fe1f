use Rattle.std.proofs.Common.{◌≡◌, ℕ, ◌<◌, ◌≤◌, Bool, false, length, arith, Option, Some, None, is_some, Result, Ok, Err, OnErr, refl, ap, sym, subst, ◌∙◌}
use Rattle.std.proofs.lemmas.Bool.{false≢true}
use Rattle.std.specs.FinMap.{find}
use Rattle.std.specs.List.{insert}
use Rattle.route_select.specs.declared.candidate.Source.{Source}
use Rattle.route_select.specs.declared.candidate.Standing.{Standing}
use Rattle.route_select.specs.Selection.{Standings, considered_in, source_cmp, with_standing, standing_from}
use Rattle.route_select.specs.Entries.{candidate_at}
use Rattle.route_select.specs.Groups.{AreRanked, IsBest, IsSlot, AreGrouped, entry_at, known_of, most_entries, without}
use Rattle.route_select.proofs.EntryLemmas.{Entries, compared}
use Rattle.route_select.proofs.Beside.{read_here}
use Rattle.route_select.proofs.GroupMap.{distinct_put, distinct_without, gone, put_map, get_from, without_absent}
use Rattle.route_select.proofs.GroupOrder.{put_in, length_put_in, insert_put_in, ranked_put, ranked_without, each_put_in, each_without}
use Rattle.route_select.proofs.group_cell.GroupCellSelector.put.Goals as goal

-- the entries with the new one put in
placed : (always : Bool) (es left read new : Entries) (e : Source × Standing) (i : ℕ) → left ≡ without e.0 es →
    read ≡ left → IsSlot always read e i → new ≡ insert left i e → new ≡ put_in always e (without e.0 es)
placed always es left read new e i gone_from same slot put_there =
    put_there ∙ ap (λ xs. insert xs i e) gone_from
    ∙ insert_put_in always (without e.0 es) e i (subst (λ xs. IsSlot always xs e i) (same ∙ gone_from) slot)

pub slot-at-requires : goal.slot-at-requires
slot-at-requires c = subst (AreRanked c.self.inside.med_always) (sym (c.deref.ensures.value ∙ c.in_ok-known.ensures.ok))
    (ranked_without c.self.inside.med_always c.args.source c.self.inside.entries.items c.self.invariant.ranked)

pub best_then-self-inside-requires-clause-ranked : goal.best_then-self-inside-requires-clause-ranked
best_then-self-inside-requires-clause-ranked c =
    let always = c.self.inside.med_always in
    let items = placed always c.self.inside.entries.items _ _ _ (
      c.args.source,
      c.args.standing,
    ) _ c.in_ok-known.ensures.ok c.deref.ensures.value c.slot-at.ensures c.in-Ok.ensures.items in
    let es = c.self.inside.entries.items in
    subst (AreRanked always) (sym (c.deref-in-Ok.ensures.value ∙ items))
    (ranked_put always (c.args.source, c.args.standing) (without c.args.source es)
    (ranked_without always c.args.source es c.self.invariant.ranked))

-- there is room for one more
few_put : (always : Bool) (e : Source × Standing) (left xs : Entries) → left ≡ xs → length left < most_entries →
    length (put_in always e xs) ≤ most_entries
few_put always e left xs same few =
    let more = length_put_in always e xs in
    let alike : length left ≡ length xs = ap length same in
    omega arith

pub best_then-self-inside-requires-clause-few : goal.best_then-self-inside-requires-clause-few
best_then-self-inside-requires-clause-few c =
    let always = c.self.inside.med_always in
    let items = placed always c.self.inside.entries.items _ _ _ (
      c.args.source,
      c.args.standing,
    ) _ c.in_ok-known.ensures.ok c.deref.ensures.value c.slot-at.ensures c.in-Ok.ensures.items in
    subst (λ xs. length xs ≤ most_entries) (sym (c.deref-in-Ok.ensures.value ∙ items))
    (few_put always (c.args.source, c.args.standing) _ _ c.in_ok-known.ensures.ok c.in_ok-known.ensures.few)

-- a source that was not known has nothing to take out
absent_if : {X : Type 0} (o : Option X) (b : Bool) → b ≡ is_some o → b ≡ false → o ≡ None
absent_if None b is unknown = refl
absent_if (Some x) b is unknown = absurd (false≢true (sym unknown ∙ is))

pub best_then-self-inside-requires-clause-beside : goal.best_then-self-inside-requires-clause-beside
best_then-self-inside-requires-clause-beside c = λ unknown.
    let always = c.self.inside.med_always in
    let es = c.self.inside.entries.items in
    let e : Source × Standing = (c.args.source, c.args.standing) in
    let at = c.slot-at.result in
    let left : without c.args.source es ≡ es =
    without_absent c.args.source es
    (absent_if (find source_cmp c.args.source es) _ c.in_ok-known.ensures.had unknown) in
    let same = c.in_ok-known.ensures.ok ∙ left in
    let slotted : IsSlot always es e at = subst (λ xs. IsSlot always xs e at) (c.deref.ensures.value
    ∙ same) c.slot-at.ensures in
    let new : c.deref-in-Ok.result.now ≡ insert es at e = c.deref-in-Ok.ensures.value ∙ c.in-Ok.ensures.items
    ∙ ap (λ xs. insert xs at e) same in
    let here : entry_at c.deref-in-Ok.result.now at ≡ e = ap (λ xs. entry_at xs at) new
    ∙ read_here es at e slotted.in_range in
    record {
      others = es;
      in_range = slotted.in_range;
      beside = new ∙ ap (insert es at) (sym here);
      best = c.self.invariant.best;
    }

pub invariant_of-self-in-Ok : goal.invariant_of-self-in-Ok
invariant_of-self-in-Ok c =
    let always = c.self.inside.med_always in
    let items = placed always c.self.inside.entries.items _ _ _ (
      c.args.source,
      c.args.standing,
    ) _ c.in_ok-known.ensures.ok c.deref.ensures.value c.slot-at.ensures c.in-Ok.ensures.items in
    let s = c.args.source in
    let e : Source × Standing = (s, c.args.standing) in
    let es = c.self.inside.entries.items in
    let b = c.best_then-self-inside.result in
    subst (λ xs. AreGrouped always xs b) (sym items) (record {
      ranked = ranked_put always e (without s es) (ranked_without always s es c.self.invariant.ranked);
      distinct = distinct_put always e (without s es) (gone s es) (distinct_without s es c.self.invariant.distinct);
      own = each_put_in always e (without s es) c.requires (each_without s es c.self.invariant.own);
      best = subst (λ xs. IsBest always (considered_in xs) (candidate_at xs b)) (c.deref-in-Ok.ensures.value
          ∙ items) c.best_then-self-inside.ensures;
      few = few_put always e _ _ c.in_ok-known.ensures.ok c.in_ok-known.ensures.few;
    })

pub returns-clause-ok : goal.returns-clause-ok
returns-clause-ok c =
    let always = c.self.inside.med_always in
    let items = placed always c.self.inside.entries.items _ _ _ (
      c.args.source,
      c.args.standing,
    ) _ c.in_ok-known.ensures.ok c.deref.ensures.value c.slot-at.ensures c.in-Ok.ensures.items in
    ap (compared always) (ap known_of items ∙ put_map always c.args.source c.args.standing c.self.inside.entries.items)
    ∙ ap (with_standing c.args.source c.args.standing) c.self.view_is

anyway : {A E : Type 0} (r : Result A E) (P : Type 0) → P → OnErr r P
anyway (Ok a) P p = tt
anyway (Err e) P p = p

pub returns-in_err-known-clause-absent : goal.returns-in_err-known-clause-absent
returns-in_err-known-clause-absent c =
    anyway _ _ (ap (λ (m : Standings). standing_from m c.args.source) (sym c.self.view_is)
    ∙ get_from c.self.inside.entries.items c.args.source ∙ c.in_err-known.ensures.absent)
