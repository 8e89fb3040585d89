use Rattle.std.proofs.Common.{Ok, Err, sym, ◌∙◌}
use Rattle.module_set.specs.Views.{module_seen}
use Rattle.module_set.proofs.Sequence.{read_is, refused_at, want_at}
use Rattle.module_set.proofs.read.read_module.Goals as goal

pub returns-in-Ok-clause-complete : goal.returns-in-Ok-clause-complete
returns-in-Ok-clause-complete c = λ m is.
    let named = c.in_ok-name.ensures ∙ sym is.name in
    let same = read_is (module_seen c.args.text.now) c.as_bytes.result.now (Ok c.in-Ok.program) c.as_bytes.ensures.value c.in-Ok.ensures.complete m is in
    λ i. record { name = named i; program = same i }

pub returns-in-Err-clause-refused : goal.returns-in-Err-clause-refused
returns-in-Err-clause-refused c = refused_at c.args.number (module_seen c.args.text.now) c.as_bytes.result.now c.in-Err.cause c.refusal.result c.refusal.ensures c.as_bytes.ensures.value c.in-Err.ensures.refused

pub returns-in-Err-clause-complete : goal.returns-in-Err-clause-complete
returns-in-Err-clause-complete c = λ m is.
    want_at c.args.number c.in-Err.cause c.refusal.result c.refusal.ensures (read_is (module_seen c.args.text.now) c.as_bytes.result.now (Err c.in-Err.cause) c.as_bytes.ensures.value c.in-Err.ensures.complete m is)
