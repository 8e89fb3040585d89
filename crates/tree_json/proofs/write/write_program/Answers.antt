use Rattle.serde_json.specs.View.{view as data_of}
use Rattle.tree_json.specs.Form.{in_rows}
use Rattle.tree_json.proofs.Ends.{written-found}
use Rattle.tree_json.proofs.WritesAgain.{text_of, plain_again}
use Rattle.tree_json.proofs.write.write_program.Goals as goal

pub returns-clause-text : goal.returns-clause-text
returns-clause-text c =
    text_of in_rows c.args.program.now (data_of c.in_ok-value.value) c.to_vec.result c.in_ok-value.ensures.value c.to_vec.ensures.text

pub returns-clause-again : goal.returns-clause-again
returns-clause-again c =
    plain_again c.args.program.now (data_of c.in_ok-value.value) c.to_vec.result c.in_ok-value.ensures.value c.in_ok-rows.ensures.shaped c.in_ok-value.ensures.readable c.to_vec.ensures.utf8 c.to_vec.ensures.reads_back

pub returns-clause-written : goal.returns-clause-written
returns-clause-written c = written-found c.to_vec.result c.args.program.now (returns-clause-again c)
