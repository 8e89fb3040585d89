use Rattle.std.proofs.Common.{◌≡◌, true}
use Rattle.semantic_syntax.specs.Tables.{Name}
use Rattle.tangle_model.specs.Tangled.{is_shared}
use Rattle.tangled_names.specs.Stored.{has_name}
use Rattle.tangled_names.proofs.Keys.{shared_left}
use Rattle.tangled_names.proofs.repeated.shared_names.Given as goal

abbrev pub invariant-loop-number : goal.invariant-loop-number
invariant-loop-number l = record {
  kept : (x : Name) → has_name l.met.again x ≡ true → has_name l.met.seen x ≡ true;
  rest : (x : Name) → shared_left l.scoping l.number x l.met.seen l.met.again ≡ is_shared l.scoping.symbols x;
}
