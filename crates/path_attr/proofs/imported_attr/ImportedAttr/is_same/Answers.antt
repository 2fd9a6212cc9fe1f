use Rattle.path_attr.specs.Sameness.{attrs_exact, told}
use Rattle.path_attr.proofs.imported_attr.ImportedAttr.is_same.Goals as goal

pub returns-clause-meaning : goal.returns-clause-meaning
returns-clause-meaning c = told attrs_exact _ _ _ c.has_same.ensures
