use Rattle.std.proofs.Common.{◌≡◌, false, sym, ◌∙◌}
use Rattle.std.specs.Str.{chars}
use Rattle.semantic_tree.proofs.ShapedLaws.{IsShaped-no_fault}
use Rattle.rename_model.specs.Refusal.{is_bad_name}
use Rattle.renamer.specs.Told.{told_by}
use Rattle.renamer.proofs.Outcomes.{identifiers_by, compared_by}
use Rattle.renamer.proofs.rename.rename_analysed.Goals as goal

pub renamed-requires-clause-identifiers : goal.renamed-requires-clause-identifiers
renamed-requires-clause-identifiers c =
    let p = c.args.program.now in
    let good : is_bad_name (chars c.args.new.now) ≡ false = sym c.is_bad_name.ensures ∙ c.if-is_bad_name.false in
    identifiers_by p c.args.symbol (chars c.args.new.now) (told_by c.args.analysed.now) c.requires.analysis good
    (IsShaped-no_fault p c.root-root.ensures.shaped) c.root-root.ensures.numbered c.requires.symbol (sym c.in-None.is ∙ c.in_ok-fixed.ensures)

pub returns : goal.returns
returns c =
    let good : is_bad_name (chars c.args.new.now) ≡ false = sym c.is_bad_name.ensures ∙ c.if-is_bad_name.false in
    compared_by c.args.program.now c.args.symbol (chars c.args.new.now) (told_by c.args.analysed.now) c.requires.analysis good
    (sym c.in-None.is ∙ c.in_ok-fixed.ensures) c.in_ok-made.made c.in_ok-made.ensures c.compared.result c.compared.ensures
