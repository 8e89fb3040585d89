use Rattle.std.proofs.Common.{ap, ◌∙◌}
use Rattle.semantic_tree.proofs.ShapedLaws.{IsShaped-no_fault}
use Rattle.name_lint.specs.Gathered.{Gathered}
use Rattle.name_lint.specs.Known.{known_names}
use Rattle.name_lint.proofs.ProgramNames.{all_symbols, unused_told, as_many, undeclared_told}
use Rattle.name_lint.proofs.found_names.names_by.Goals as goal

pub unused_symbols-requires : goal.unused_symbols-requires
unused_symbols-requires c =
    all_symbols c.args.program.now c.args.tables.now c.requires.nodes c.args.scoping.now c.requires.tables c.deref.result.now c.owners.result.now (c.deref.ensures.value ∙ c.in_ok-exported.ensures)
    (c.owners.ensures ∙ ap (λ (x : Gathered). x.owners) c.requires.pass.gathered) (IsShaped-no_fault c.args.program.now c.requires.pass.shaped)

pub undeclared_names-requires : goal.undeclared_names-requires
undeclared_names-requires c =
    as_many c.args.program.now c.args.scoping.now c.requires.tables c.references.result.now (c.references.ensures.names ∙ ap (λ (x : Gathered). x.names) c.requires.pass.gathered)
    (IsShaped-no_fault c.args.program.now c.requires.pass.shaped)

pub returns-clause-unused : goal.returns-clause-unused
returns-clause-unused c =
    unused_told c.args.program.now c.args.tables.now c.requires.nodes c.args.scoping.now c.requires.tables c.deref.result.now c.owners.result.now (c.deref.ensures.value ∙ c.in_ok-exported.ensures)
    (c.owners.ensures ∙ ap (λ (x : Gathered). x.owners) c.requires.pass.gathered) c.in_ok-unused.unused c.in_ok-unused.ensures

pub returns-clause-undeclared : goal.returns-clause-undeclared
returns-clause-undeclared c =
    c.in_ok-undeclared.ensures
    ∙ undeclared_told c.args.program.now c.args.scoping.now c.requires.tables c.references.result.now (c.references.ensures.names ∙ ap (λ (x : Gathered). x.names) c.requires.pass.gathered) (known_names c.args.known.now)
