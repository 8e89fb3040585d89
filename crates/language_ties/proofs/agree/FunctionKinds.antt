-- Functions make environments of four kinds, of which an `if` body's binds no plain name, and arrows of two.
use Rattle.std.proofs.Common.{◌≡◌, true, false, inl, inr, ◌⊎◌, refl}
use Rattle.semantic_kinds.specs.declared.kind.AstType.TheVariants as kind
use Rattle.binding_laws.proofs.SmallLaws.{never}
use Rattle.language_ties.specs.Environments.{same_environment_kind}
use Rattle.language_ties.specs.declared.environment_kind.EnvironmentKind.{EnvironmentKind}
use Rattle.language_ties.specs.declared.environment_kind.EnvironmentKind.TheVariants as environment
use Rattle.language_ties.proofs.agree.MadeEnvironments.{may_make}

pub function_kinds : (e : EnvironmentKind) → may_make kind.Function e ≡ true → same_environment_kind e environment.IfBody ≡ false → (e ≡ environment.Body) ⊎ ((e ≡ environment.Parameters) ⊎ (e ≡ environment.OwnName))
function_kinds environment.Body h u = inl refl
function_kinds environment.Parameters h u = inr (inl refl)
function_kinds environment.OwnName h u = inr (inr refl)
function_kinds environment.IfBody h u = absurd (never u)
function_kinds environment.Global h u = absurd cc
function_kinds environment.ArrowParameters h u = absurd cc
function_kinds environment.StaticBlock h u = absurd cc
function_kinds environment.Block h u = absurd cc
function_kinds environment.Loop h u = absurd cc
function_kinds environment.Catch h u = absurd cc
function_kinds environment.Class h u = absurd cc
function_kinds environment.Object h u = absurd cc

-- of no class, no own name and no catch clause
abbrev pub IsOrdinary : EnvironmentKind → Type 0
IsOrdinary k = (same_environment_kind k environment.Class ≡ false) × (same_environment_kind k environment.OwnName ≡ false) × (same_environment_kind k environment.Catch ≡ false)

pub arrow_kinds : (e : EnvironmentKind) → may_make kind.ArrowFunctionExpression e ≡ true → (e ≡ environment.Body) ⊎ (e ≡ environment.ArrowParameters)
arrow_kinds environment.Body h = inl refl
arrow_kinds environment.ArrowParameters h = inr refl
arrow_kinds environment.Parameters h = absurd cc
arrow_kinds environment.OwnName h = absurd cc
arrow_kinds environment.IfBody h = absurd cc
arrow_kinds environment.Global h = absurd cc
arrow_kinds environment.StaticBlock h = absurd cc
arrow_kinds environment.Block h = absurd cc
arrow_kinds environment.Loop h = absurd cc
arrow_kinds environment.Catch h = absurd cc
arrow_kinds environment.Class h = absurd cc
arrow_kinds environment.Object h = absurd cc
