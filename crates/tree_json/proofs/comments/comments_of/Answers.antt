use Rattle.std.proofs.Common.{◌∙◌, None, sym}
use Rattle.semantic_tree.specs.declared.error.TreeError.TheVariants.{Shape}
use Rattle.tree_json.specs.Comments.{comment_of_data}
use Rattle.tree_json.proofs.Steps.{item_more, item_last, refuses_item}
use Rattle.tree_json.proofs.comments.comments_of.Goals as goal

pub loop-value-preserved : goal.loop-value-preserved
loop-value-preserved c =
    item_more comment_of_data c.loop-value.comments.items c.push.new.self.items _ c.args.values.now c.loop-value.value-index c.value-item.result c.in_ok-comment.comment c.loop-value-test.true c.value-item.is
    (sym c.comment_of.ensures ∙ c.in_ok-comment.ensures.ok_part) c.in_ok-push.ensures.items c.loop-value.invariant

pub returns : goal.returns
returns c = item_last comment_of_data c.loop-value.comments.items c.args.values.now c.loop-value.value-index (Shape None) c.loop-value-test.false c.loop-value.invariant

pub returns-in_err-comment : goal.returns-in_err-comment
returns-in_err-comment c =
    let none = c.in_err-comment.ensures.ok_part in
    refuses_item (λ comments. comments.items) c.from_residual-in_err-comment.result comment_of_data c.loop-value.comments.items c.args.values.now c.loop-value.value-index c.value-item.result c.comment_of.result (Shape None) _
    c.from_residual-in_err-comment.ensures.1 c.in_err-comment.ensures.value none c.loop-value-test.true c.value-item.is (sym c.comment_of.ensures ∙ none) c.loop-value.invariant
