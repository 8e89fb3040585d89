-- Catch clauses end with their body, a block. Kinds and roles by their tests.
use Rattle.std.proofs.Common.{◌≡◌, [], ◌∷◌, refl, Bool, true, false, cond, ◌&&◌}
use Rattle.semantic_syntax.proofs.Truth.{and_second}
use denote.Enum.Bare.{same_true}
use Rattle.semantic_tree.specs.Forest.{Forest, nothing, tree}
use Rattle.semantic_kinds.specs.Kinds.{same_kind}
use Rattle.semantic_kinds.specs.Roles.{same_role}
use Rattle.semantic_kinds.specs.contracts.kind.AstType.{the_type as the_kinds}
use Rattle.semantic_kinds.specs.contracts.role.Role.{the_type as the_roles}
use Rattle.semantic_kinds.specs.declared.kind.AstType.{AstType}
use Rattle.semantic_kinds.specs.declared.kind.AstType.TheVariants as kind
use Rattle.semantic_kinds.specs.declared.role.Role.{Role}
use Rattle.semantic_kinds.specs.declared.role.Role.TheVariants as role
use Rattle.semantic_tree.specs.Views.{has_role}

pub kind_is : (a b : AstType) → same_kind a b ≡ true → a ≡ b
kind_is a b h = same_true the_kinds tt a b h

pub role_is : (a b : Role) → same_role a b ≡ true → a ≡ b
role_is a b h = same_true the_roles tt a b h

abbrev pub is_nothing : Forest → Bool
is_nothing nothing = true
is_nothing (tree r k span text marks below id after) = false

-- the last child is the body, a block
abbrev pub ends_with_block : Forest → Bool
ends_with_block nothing = false
ends_with_block (tree r k span text marks below id after) = cond (same_role r role.Body) (same_kind k kind.BlockStatement && is_nothing after) (ends_with_block after)

-- each catch clause of a forest ends with its body, a block
abbrev pub clauses_end : Forest → Bool
clauses_end nothing = true
clauses_end (tree r k span text marks below id after) = cond (same_kind k kind.CatchClause) (ends_with_block below) true && (clauses_end below && clauses_end after)

-- no body follows the body
pub nothing_follows : (r : Role) (k : AstType) (after : Forest) → same_role r role.Body ≡ true → cond (same_role r role.Body) (same_kind k kind.BlockStatement && is_nothing after) (ends_with_block after) ≡ true → has_role (role.Body ∷ []) after ≡ false
nothing_follows r k nothing e h = refl
nothing_follows r k (tree r2 k2 span text marks below id after) e h =
    let q : (same_kind k kind.BlockStatement && false) ≡ true = rw e at h in
    let w : false ≡ true = and_second (same_kind k kind.BlockStatement) false q in absurd cc

-- the form of what follows another child
pub later_ends : (r : Role) (k : AstType) (after : Forest) → same_role r role.Body ≡ false → cond (same_role r role.Body) (same_kind k kind.BlockStatement && is_nothing after) (ends_with_block after) ≡ true → ends_with_block after ≡ true
later_ends r k after e h = rw e at h
