use Rattle.std.proofs.Common.{◌∷◌, [], length, map, ap, length-append, arith}
use Rattle.module_set.specs.Views.{module_seen}
use Rattle.module_set.proofs.Sequence.{read_more, refused_later, continues_more, read_all}
use Rattle.module_set.proofs.read.modules_of.Goals as goal

pub loop-number-preserved : goal.loop-number-preserved
loop-number-preserved c =
    let all = map module_seen c.args.texts.now in
    let l = c.loop-number in
    record {
      read = read_more all c.args.texts.now l.number _ l.list.items c.push.new.self.items c.in_ok-module.module (omega arith) c.in_ok-module.ensures.read c.in_ok-push.ensures.items l.invariant.read;
      refused = refused_later all c.args.texts.now l.number _ c.in_ok-module.module (omega arith) c.in_ok-module.ensures.read l.invariant.refused;
      whole = λ ms is. continues_more c.args.texts.now l.number _ l.list.items c.push.new.self.items c.in_ok-module.module ms (omega arith) c.in_ok-module.ensures.complete c.in_ok-push.ensures.items (l.invariant.whole ms is);
      count = omega (arith, ap length c.in_ok-push.ensures.items, length-append l.list.items (c.in_ok-module.module ∷ []));
    }

pub returns-clause-read : goal.returns-clause-read
returns-clause-read c = read_all (map module_seen c.args.texts.now) c.args.texts.now c.loop-number.number c.loop-number.list.items c.new.result (omega arith) c.new.ensures c.loop-number.invariant.read
