use Rattle.serde_json.specs.View.{view as data_of}
use Rattle.tree_json.specs.Form.{in_list}
use Rattle.tree_json.specs.Written.{texts_of}
use Rattle.tree_json.proofs.Ends.{written-found}
use Rattle.tree_json.proofs.WritesAgain.{text_of, texts_again}
use Rattle.tree_json.proofs.write.write_program_with_texts.Goals as goal

pub returns-clause-text : goal.returns-clause-text
returns-clause-text c =
    let p = c.args.program.now in
    text_of (in_list (texts_of p)) p (data_of c.in_ok-value.value) c.to_vec.result c.in_ok-value.ensures.value c.to_vec.ensures.text

pub returns-clause-again : goal.returns-clause-again
returns-clause-again c =
    let form = c.in_ok-value.ensures in
    texts_again c.args.program.now (data_of c.in_ok-value.value) c.to_vec.result form.again form.value c.in_ok-rows.ensures.shaped form.readable c.to_vec.ensures.utf8 c.to_vec.ensures.reads_back

pub returns-clause-written : goal.returns-clause-written
returns-clause-written c = written-found c.to_vec.result c.args.program.now (returns-clause-again c)
