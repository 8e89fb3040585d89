use Rattle.std.proofs.Common.{◌≡◌, ℕ, List, Some, ap, subst, ◌∙◌}
use Rattle.std.specs.Borrow.{Bor}
use Rattle.std.specs.HashMap.{UpdatesBy}
use Rattle.std.specs.Str.{chars, bytes_eq}
use Rattle.semantic_syntax.specs.declared.spans.Span.{Span}
use Rattle.semantic_tree.specs.declared.node.Node.{Node}
use Rattle.type_checks.proofs.LastSeen.{seen_before, seen_more}
use Rattle.type_checks.proofs.Repeating.{turned, stopped}
use Rattle.type_checks.proofs.signatures.tell_each_repeated.Goals as goal

pub loop-name-preserved : goal.loop-name-preserved
loop-name-preserved c =
    let h = c.loop-name.invariant in
    let word : List ℕ = c.as_str.result.now in
    let is : chars word ≡ c.in-Some.name.node.now.text = c.as_str.ensures.chars ∙ ap (λ (n : Node). n.text) c.node.ensures in
    let updates = subst (λ (s : Span). UpdatesBy (λ (x y : Bor (List ℕ)). bytes_eq x.now y.now) (λ (key : Bor (List ℕ)). bytes_eq word key.now) c.loop-name.seen c.insert.new.self (Some s)) c.span.ensures c.in_ok-before.ensures.updates in
    turned _ _ _ c.in-Some.name.node.now c.in_ok-before.before c.loop-name.seen c.insert.new.self _ _ _ h c.in-Some.ensures.steps
    (c.in_ok-before.ensures.old ∙ seen_before c.loop-name.seen h.earlier c.in-Some.name.node.now word h.last c.as_str.utf8 is)
    (seen_more c.loop-name.seen c.insert.new.self h.earlier c.in-Some.name.node.now word h.last c.as_str.utf8 is updates)
    c.in_ok-tell_repeated.ensures

pub returns-in_err-tell_repeated : goal.returns-in_err-tell_repeated
returns-in_err-tell_repeated c =
    let h = c.loop-name.invariant in
    let is : chars c.as_str.result.now ≡ c.in-Some.name.node.now.text = c.as_str.ensures.chars ∙ ap (λ (n : Node). n.text) c.node.ensures in
    stopped _ c.from_residual-in_err-tell_repeated.result _ _ _ c.in-Some.name.node.now c.in_ok-before.before c.loop-name.seen _ _ _ c.from_residual-in_err-tell_repeated.ensures.1 h c.in-Some.ensures.steps
    (c.in_ok-before.ensures.old ∙ seen_before c.loop-name.seen h.earlier c.in-Some.name.node.now c.as_str.result.now h.last c.as_str.utf8 is)
    c.in_err-tell_repeated.ensures
