use Rattle.semantic_kinds.specs.declared.role.Role.TheVariants as role
use Rattle.semantic_tree.specs.Views.{child_of}
use Rattle.link_model.specs.Exports.{default_name}
use Rattle.link_model.specs.Imports.{imports}
use Rattle.module_linker.specs.AnalysedIn.{analysed_in, ties_in}
use Rattle.module_linker.specs.ScopeOf.{imported_in}
use Rattle.module_linker.proofs.LocalStands.{local_stands, default_stands}
use Rattle.module_linker.proofs.export_targets.export_target.Goals as goal

pub returns-in-Listed-clause-stands : goal.returns-in-Listed-clause-stands
returns-in-Listed-clause-stands c =
    let scope = c.args.scope.now in
    rw (c.in-Listed.is, c.listed_target.ensures)
    (local_stands c.args.names.now c.args.texts.now scope.analysed.now.number (ties_in scope.analysed.now) (imports (analysed_in scope.analysed.now)) (imported_in scope) c.requires (child_of role.Local c.in-Listed.specifier.now))

pub returns-in-ByDefault-clause-stands : goal.returns-in-ByDefault-clause-stands
returns-in-ByDefault-clause-stands c =
    let scope = c.args.scope.now in
    rw (c.in-ByDefault.is, c.default_target.ensures)
    (default_stands c.args.names.now c.args.texts.now scope.analysed.now.number (ties_in scope.analysed.now) (imports (analysed_in scope.analysed.now)) (default_name (child_of role.Declaration c.in-ByDefault.statement.now)))
