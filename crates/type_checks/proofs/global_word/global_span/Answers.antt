use Rattle.std.proofs.Common.{◌≤◌, ℕ, List, Some, drop, length, length-drop, sym, ap, subst, ◌∙◌, arith}
use Rattle.memchr.specs.Find.{FindsNeedle}
use Rattle.semantic_syntax.specs.declared.spans.Span.{Span}
use Rattle.check_model.specs.Surroundings.{bytes_at}
use Rattle.check_context.specs.Handed.{around}
use Rattle.type_checks.proofs.GlobalWord.{word, span_at, word_is}
use Rattle.type_checks.proofs.UnmarkedSpans.{sound_order, sound_end}
use Rattle.type_checks.proofs.global_word.global_span.Goals as goal

pub returns-in-Some : goal.returns-in-Some
returns-in-Some c =
    let span = c.args.kind.node.now.span in
    let source = c.args.ctx.now.source_text.now in
    let ends : span.end ≤ length source = sound_end source span c.requires.span in
    c.sized.ensures
    ∙ ap (λ (s : Span). span_at s (Some c.in-Some.at)) c.span-span.ensures
    ∙ ap (span_at span) (sym c.in-Some.is)
    ∙ word_is span (drop span.start source) (sound_order source span c.requires.span) (omega (arith, length-drop span.start source)) c.find.result
    (subst (λ (hay : List ℕ). FindsNeedle hay word 0 c.find.result) (c.bytes_at.ensures ∙ ap (bytes_at (around c.args.ctx.now)) c.span-span.ensures) c.find.ensures)

pub returns-in-None : goal.returns-in-None
returns-in-None c =
    let span = c.args.kind.node.now.span in
    let source = c.args.ctx.now.source_text.now in
    let ends : span.end ≤ length source = sound_end source span c.requires.span in
    c.span-span.ensures
    ∙ ap (span_at span) (sym c.in-None.is)
    ∙ word_is span (drop span.start source) (sound_order source span c.requires.span) (omega (arith, length-drop span.start source)) c.find.result
    (subst (λ (hay : List ℕ). FindsNeedle hay word 0 c.find.result) (c.bytes_at.ensures ∙ ap (bytes_at (around c.args.ctx.now)) c.span-span.ensures) c.find.ensures)
