-- The classes around a class are in the table.
use Rattle.std.proofs.Common.{ℕ, zero, suc, ◌<◌, List, [], Option, Some, None, IfSome, arith}
use Rattle.std.specs.List.{AllByRecursion}
use Rattle.std.specs.Option.{option_map_or}
use Rattle.class_table.specs.Outward.{parent_class, StandBefore, classes_outward_within, classes_outward}

module _ (classes : ℕ) (parents : List (ℕ × ℕ)) (before : StandBefore parents) where
  option_each : (f : ℕ → List ℕ) (o : Option ℕ) (c : ℕ) → IfSome o (λ p. p < c) → ((p : ℕ) → p < c → AllByRecursion (λ k. k < classes) (f p)) → AllByRecursion (λ k. k < classes) (option_map_or f o [])
  option_each f None c h each = tt
  option_each f (Some p) c h each = each p h

  outward_each : (steps c : ℕ) → c < classes → AllByRecursion (λ k. k < classes) (classes_outward_within steps parents c)
  outward_each zero c h = tt
  outward_each (suc steps) c h = (h, option_each (classes_outward_within steps parents) (parent_class parents c) c (before c) (λ p k. outward_each steps p (omega (arith, h, k))))

  pub around_each : (c : ℕ) → c < classes → AllByRecursion (λ k. k < classes) (classes_outward parents c)
  around_each c h = outward_each (suc c) c h
