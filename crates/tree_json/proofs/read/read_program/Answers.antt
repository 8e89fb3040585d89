use Rattle.semantic_tree.proofs.ShapedLaws.{IsShaped-no_fault}
use Rattle.tree_json.specs.Reading.{reading}
use Rattle.tree_json.proofs.Completes.{reading-form}
use Rattle.tree_json.proofs.Ends.{read-as, read-found}
use Rattle.tree_json.proofs.read.read_program.Goals as goal

pub returns-clause-complete : goal.returns-clause-complete
returns-clause-complete c d p utf8 is form numbered shaped =
    let sound = IsShaped-no_fault p shaped in
    let told = c.read_all.ensures in
    read-as c.read_all.result (reading c.args.bytes.now) p told.read told.numbered told.refused (reading-form c.args.bytes.now d p utf8 is form sound) numbered sound

pub returns-clause-found : goal.returns-clause-found
returns-clause-found c = read-found c.read_all.result c.args.bytes.now c.read_all.ensures.read
