use Rattle.scoping_rows.proofs.Clones.{clones_shown, clones_same}
use Rattle.scoping.proofs.scoping.clones.Rows.cloned.Goals as goal

pub returns-clause-scopes : goal.returns-clause-scopes
returns-clause-scopes c = clones_same _ (λ x y h. h) c.args.scopes.now.items c.in_ok-clone.field-0.items c.in_ok-clone.ensures.cases.0

pub returns-clause-symbols : goal.returns-clause-symbols
returns-clause-symbols c = clones_same _ (λ x y h. h) c.args.symbols.now.items c.in_ok-clone-4.field-0.items c.in_ok-clone-4.ensures.cases.0

pub returns-clause-references : goal.returns-clause-references
returns-clause-references c = clones_same _ (λ x y h. h) c.args.references.now.items c.in_ok-clone-2.field-0.items c.in_ok-clone-2.ensures.cases.0

pub returns-clause-uses : goal.returns-clause-uses
returns-clause-uses c = clones_shown _ (λ v. v.items) (λ x y h. clones_same _ (λ n m e. e) x.items y.items h) c.args.uses.now.items c.in_ok-clone-3.field-0.items c.in_ok-clone-3.ensures.cases.0
