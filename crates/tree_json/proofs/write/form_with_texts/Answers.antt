use Rattle.std.proofs.Common.{◌≡◌, ◌∙◌, [], map, ap, subst, Result, Ok, Err, IfOk}
use Rattle.std.specs.declared.alloc.AllocError.{AllocError}
use Rattle.serde_json.specs.View.{view as data_of}
use Rattle.serde_json.specs.declared.value.Value.{Value}
use Rattle.tree_json.specs.Form.{in_list}
use Rattle.tree_json.specs.Views.{characters}
use Rattle.tree_json.specs.Written.{texts_from, texts_of, program_data, Each, IsReadable, IsTextAgain}
use Rattle.tree_json.proofs.WritesAgain.{spelled_again}
use Rattle.tree_json.proofs.write.form_with_texts.Goals as goal

always : {P : Type 0} (result : Result Value AllocError) → P → IfOk result (λ v. P)
always (Ok v) p = p
always (Err e) p = tt

pub returns : goal.returns
returns c =
    let p = c.args.program.now in
    let keys = c.in_ok-texts.texts.keys in
    let result = c.value_with_texts.result in
    let texts : map characters keys ≡ texts_of p = c.in_ok-texts.ensures.texts ∙ ap (texts_from []) c.requires in
    record {
      value = subst (λ ts. IfOk result (λ v. data_of v ≡ program_data (in_list ts) p)) texts c.value_with_texts.ensures.value;
      readable = subst (λ ts. IfOk result (λ v. IsReadable (in_list ts) p)) texts c.value_with_texts.ensures.readable;
      again = always result (subst (Each IsTextAgain) texts (spelled_again keys c.in_ok-texts.ensures.spelled));
    }
