use Rattle.std.proofs.Common.{◌≡◌, ap}
use Rattle.std.specs.List.{list_any}
use Rattle.semantic_syntax.specs.Reading.{chain}
use Rattle.name_lint.specs.Undeclared.{has_arguments}
use Rattle.name_lint.proofs.scope_questions.is_within_function.Goals as goal

pub loop-around-init : goal.loop-around-init
loop-around-init c =
    let same : chain c.args.scoping.now.scopes c.args.scope ≡ c.into_iter-around-iterator.result = cc in
    ap (list_any (has_arguments c.args.scoping.now)) same
