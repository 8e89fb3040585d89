use Rattle.std.proofs.Common.{ap, ◌∙◌}
use Rattle.semantic_tree.specs.declared.node.Node.{Node}
use Rattle.mangle_model.specs.Assignment.{assignment_of}
use Rattle.mangle_model.specs.Mangling.{all_identifiers}
use Rattle.mangle_model.specs.Renamed.{given}
use Rattle.mangle_model.specs.WithNames.{is_given}
use Rattle.renamer.specs.Told.{told_by}
use Rattle.mangle_names.specs.Marks.{is_number_marked}
use Rattle.mangler.proofs.Mangles.{givable_by}
use Rattle.mangler.proofs.mangling.may_be_given.Goals as goal

pub returns : goal.returns
returns c = λ passed.
    givable_by (is_number_marked c.args.may.now) c.args.program.now c.args.names.now (told_by c.args.analysed.now) c.in_ok-barred.barred c.all_pass.result c.are_identifiers.result c.requires c.in_ok-barred.ensures c.all_pass.ensures
    (c.are_identifiers.ensures ∙ ap (λ (n : Node). all_identifiers (is_given (given (assignment_of c.args.names.now) (told_by c.args.analysed.now))) n.children) (c.node.ensures ∙ c.root.ensures.root))
    c.if-not-all_pass.false passed
