use Rattle.std.proofs.Common.{◌≡◌, ◌+◌, sym, ap, subst, ◌∙◌}
use Rattle.std.specs.Str.{IsCharBoundary}
use Rattle.semantic_syntax.specs.declared.spans.Span.{Span}
use Rattle.type_checks.proofs.UnmarkedSpans.{behind_first, in_front}
use Rattle.type_checks.proofs.annotations.unmarked_text.Goals as goal

pub source_text-requires-else-has_mark-clause-from_character : goal.source_text-requires-else-has_mark-clause-from_character
source_text-requires-else-has_mark-clause-from_character c =
    let node = c.args.kind.node.now in
    let source = c.args.source.now in
    let start : c.shrink_left.result.start ≡ node.span.start + 1 = ap (λ (s : Span). s.start) c.shrink_left.ensures ∙ ap (λ (s : Span). s.start + 1) c.span-span.ensures in
    subst (IsCharBoundary source) (sym start) (behind_first source node.span c.args.mark c.utf8.source c.requires.sound c.requires.ascii (in_front source node c.args.mark (sym c.has_mark.ensures ∙ c.if-has_mark.false) c.requires.marked))
