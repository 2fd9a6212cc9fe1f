use Rattle.std.proofs.Common.{Some, slice_get, sym, ap, subst, ◌∙◌}
use Rattle.path_attr.specs.Sameness.{attrs_exact}
use Rattle.attr_pool.specs.Pooled.{KeepsNumbers, HaveOneNumber}
use Rattle.attr_pool.proofs.Numbers.{numbers_kept, one_number}
use Rattle.attr_pool.proofs.pool.Pool.intern_hashed.Goals as goal

pub returns-then-not-contains-clause-one_number : goal.returns-then-not-contains-clause-one_number
returns-then-not-contains-clause-one_number c =
    subst HaveOneNumber c.self.view_is (one_number c.self.inside.attrs.keys c.self.invariant.0)

pub returns-in-Ok-clause-numbered : goal.returns-in-Ok-clause-numbered
returns-in-Ok-clause-numbered c =
    let stored = c.in-Ok.ensures.stored in
    ap (λ n. slice_get c.insert_full.new.self.keys n) c.of-id.ensures ∙ stored.1
    ∙ ap Some (sym ((attrs_exact _ _).0 stored.2) ∙ c.new-key.ensures)

pub returns-in-Ok-clause-keeps : goal.returns-in-Ok-clause-keeps
returns-in-Ok-clause-keeps c =
    let before = c.self.inside.attrs.keys in
    let keeps = subst (KeepsNumbers before) (sym c.in-Ok.ensures.keys) (numbers_kept before c.new-key.result) in
    subst (λ old. KeepsNumbers old c.insert_full.new.self.keys) c.self.view_is keeps

pub returns-in-Ok-clause-one_number : goal.returns-in-Ok-clause-one_number
returns-in-Ok-clause-one_number c = one_number c.insert_full.new.self.keys c.insert_full.ensures.unique

pub returns-in-Err-clause-one_number : goal.returns-in-Err-clause-one_number
returns-in-Err-clause-one_number c = one_number c.insert_full.new.self.keys c.insert_full.ensures.unique
