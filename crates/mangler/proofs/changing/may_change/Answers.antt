use Rattle.std.proofs.Common.{not, nat_eq, subst, sym, ap, ◌∙◌}
use Rattle.std.specs.HashSet.{contains as has_key}
use Rattle.semantic_model.specs.Analysis.{Analysis}
use Rattle.mangler.specs.Changing.{options_of}
use Rattle.mangler.specs.Withs.{EndsWith}
use Rattle.mangler.proofs.Changes.{not_kept}
use Rattle.mangler.proofs.changing.may_change.Goals as goal

pub must_keep-requires-clause-scopes : goal.must_keep-requires-clause-scopes
must_keep-requires-clause-scopes c = subst (λ (a : Analysis). EndsWith a.tables.scopes c.args.seen.now.with_end) (sym c.requires.analysis) c.requires.seen.withs

pub returns : goal.returns
returns c =
    ap not c.must_keep.ensures
    ∙ not_kept (options_of c.args.options) c.args.program.now c.args.analysed.now.scoping.now c.args.symbol (has_key nat_eq c.args.seen.now.fixed c.args.symbol) (ap (λ (a : Analysis). a.tables) c.requires.analysis) c.requires.symbol (c.requires.seen.fixed c.args.symbol)
