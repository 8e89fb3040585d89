use Rattle.std.proofs.Common.{◌∙◌, [], ◌∷◌, map, None, ap, sym}
use Rattle.std.specs.Option.{option_map}
use Rattle.std.proofs.lemmas.List.{map-append}
use Rattle.semantic_tree.specs.declared.error.TreeError.TheVariants.{Shape}
use Rattle.tree_json.specs.Form.{text_in}
use Rattle.tree_json.specs.Views.{characters}
use Rattle.tree_json.proofs.Steps.{item_more, item_last, refuses_item}
use Rattle.tree_json.proofs.comments.texts_of.Goals as goal

pub loop-value-preserved : goal.loop-value-preserved
loop-value-preserved c =
    item_more text_in (map characters c.loop-value.texts.items) (map characters c.push.new.self.items) _ c.args.values.now c.loop-value.value-index c.value-item.result (characters c.in_ok-text.text) c.loop-value-test.true c.value-item.is
    (sym c.text_in.ensures ∙ ap (option_map characters) c.in_ok-text.ensures.ok_part) (ap (map characters) c.in_ok-push.ensures.items ∙ map-append characters c.loop-value.texts.items (c.in_ok-text.text ∷ [])) c.loop-value.invariant

pub returns : goal.returns
returns c = item_last text_in (map characters c.loop-value.texts.items) c.args.values.now c.loop-value.value-index (Shape None) c.loop-value-test.false c.loop-value.invariant

pub returns-in_err-text : goal.returns-in_err-text
returns-in_err-text c =
    let none = c.in_err-text.ensures.ok_part in
    refuses_item (λ texts. map characters texts.items) c.from_residual-in_err-text.result text_in (map characters c.loop-value.texts.items) c.args.values.now c.loop-value.value-index c.value-item.result c.text_in.result (Shape None) _
    c.from_residual-in_err-text.ensures.1 c.in_err-text.ensures.value none c.loop-value-test.true c.value-item.is (sym c.text_in.ensures ∙ ap (option_map characters) none) c.loop-value.invariant
