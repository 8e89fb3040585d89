-- Which references count as uses, and the declaration in which each stands.
use Rattle.std.specs.Prelude.{ℕ, ◌==◌, List, [], ◌∷◌, ◌++◌, Bool, not, ◌&&◌, Option, Some, None, cond, codes, filter_map, option_and_then}
use Rattle.semantic_kinds.specs.Classes.{holds_kind}
use Rattle.semantic_kinds.specs.declared.kind.AstType.TheVariants as kind
use Rattle.semantic_kinds.specs.declared.role.Role.TheVariants as role
use Rattle.semantic_syntax.specs.declared.references.Reference.{Reference}
use Rattle.semantic_syntax.specs.declared.reference_flags.TheConstants.ReferenceFlags as way
use Rattle.semantic_tree.specs.declared.node.Node.{Node}
use Rattle.semantic_tree.specs.Views.{is, has_text, child_of}
use Rattle.semantic_model.specs.Step.{Step, entering}
use Rattle.semantic_model.specs.Analysis.{Analysis, symbol_at}

-- a function or class declaration
abbrev pub is_named_declaration : Node → Bool
is_named_declaration node = holds_kind (kind.Function ∷ kind.Class ∷ []) node.kind && has_text (codes "declaration") node

-- the name of such a declaration
abbrev pub declared_name : Node → Option Node
declared_name node = cond (is_named_declaration node) (child_of role.Id node) None

abbrev pub or_further : Option Node → Option Node → Option Node
or_further None further = further
or_further (Some id) further = Some id

-- the name of the innermost declaration, with a name, on a path
abbrev pub owner_on : List Node → Option Node
owner_on [] = None
owner_on (node ∷ path) = or_further (declared_name node) (owner_on path)

-- the owner of what stands under a path: the symbol of that declaration
abbrev pub owner_of : Analysis → List Node → Option ℕ
owner_of a path = option_and_then (λ id. symbol_at a id.node_id) (owner_on path)

abbrev pub owner_at : Analysis → Step → Option (Option ℕ)
owner_at a (entering p) = cond (is kind.IdentifierReference p.node) (Some (owner_of a p.path)) None
owner_at a _ = None

-- the owners of the references, in order
abbrev pub owners : Analysis → List Step → List (Option ℕ)
owners a walk = filter_map (owner_at a) walk

-- a use of a symbol, with its owner
pub record OwnedUse : Type 0 where
  pub owner : Option ℕ
  pub used : ℕ

-- a reference that only writes is no use
abbrev pub is_counted : Reference → Bool
is_counted r = not (r.flags.bits == way.Write.bits)

abbrev pub used_symbol : Reference → Option ℕ
used_symbol r = cond (is_counted r) r.symbol_id None

abbrev pub use_of : Option ℕ → Option ℕ → List OwnedUse
use_of owner None = []
use_of owner (Some s) = record { owner = owner; used = s } ∷ []

-- the uses that count, by the owners of references
abbrev pub uses_by : List (Option ℕ) → List Reference → List OwnedUse
uses_by (owner ∷ os) (r ∷ rs) = use_of owner (used_symbol r) ++ uses_by os rs
uses_by _ _ = []

-- the uses that count, in order of references
abbrev pub counted_uses : Analysis → List Step → List OwnedUse
counted_uses a walk = uses_by (owners a walk) a.tables.references
