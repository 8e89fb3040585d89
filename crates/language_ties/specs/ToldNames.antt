-- Where the tables are told to declare names, and where the language binds them.
use Rattle.std.specs.Prelude.{◌≡◌, ℕ, List, [], ◌∷◌, ◌++◌, Bool, true, false, ◌&&◌, ◌||◌, map}
use Rattle.semantic_kinds.specs.declared.kind.AstType.TheVariants as kind
use Rattle.semantic_syntax.specs.Tables.{Name}
use Rattle.semantic_syntax.specs.declared.source_type.SourceType.{SourceType}
use Rattle.semantic_tree.specs.Tree.{Tree}
use Rattle.semantic_tree.specs.Views.{is}
use Rattle.semantic_tree.specs.declared.node.Node.{Node}
use Rattle.semantic_model.specs.Binder.{is_statement, declared_on_entering, declared_on_opening}
use Rattle.semantic_model.specs.Declaration.{Declaration}
use Rattle.semantic_model.specs.EachStep.{EachStep}
use Rattle.semantic_model.specs.Entries.{Among}
use Rattle.semantic_model.specs.Place.{Place}
use Rattle.semantic_model.specs.ScopeKind.{opened_scope}
use Rattle.semantic_model.specs.Step.{Step, entering, opening, header_ending, closing, leaving, steps}
use Rattle.language_ties.specs.AgreeingNames.{leaves_block}
use Rattle.language_ties.specs.Bound.{Bound, bound_by_node, is_block_function}
use Rattle.language_ties.specs.Environments.{Environment, environments, innermost, is_made_for}
use Rattle.language_ties.specs.declared.environment_kind.EnvironmentKind.TheVariants as environment

-- a name that is declared, and the node that makes the scope or environment for it
pub record Told : Type 0 where
  pub identifier : ℕ
  pub name : Name
  pub maker : ℕ

abbrev pub told_by_declaration : Declaration → Told
told_by_declaration d = record { identifier = d.naming.identifier; name = d.naming.name; maker = d.route.target.opener }

abbrev pub told_by_bound : Bound → Told
told_by_bound b = record { identifier = b.identifier; name = b.name; maker = b.environment.maker }

-- a function that may leave its block: it has a variable beside (B.3.2), or is the body of an `if`, which is no scope of the tables
abbrev pub may_leave_block : SourceType → Node → List Node → Bool
may_leave_block s x path =
    is kind.Function x && is_statement x && (is_block_function s x path || is_made_for environment.IfBody (innermost (environments x path)))

-- what the tables are told of a node, in its scope or around it, is what the language binds
abbrev pub DeclaresAsBound : SourceType → Place → Type 0
DeclaresAsBound s p =
    may_leave_block s p.node p.path ≡ false
    → map told_by_declaration (declared_on_opening p (opened_scope p 0) ++ declared_on_entering p) ≡ map told_by_bound (bound_by_node p.node.kind s p.node p.path)

abbrev pub Declares : SourceType → Step → Type 0
Declares s (entering p) = DeclaresAsBound s p
Declares s (opening p o) = Unit {0}
Declares s (header_ending p o) = Unit {0}
Declares s (closing p o) = Unit {0}
Declares s (leaving p) = Unit {0}

-- at each node of the program
abbrev pub DeclarationsAreBound : Tree → Type 0
DeclarationsAreBound p = EachStep (Declares p.source_type) (steps p)

-- for a function that leaves its block its variable is told, in the scope of the node that makes the variable's environment
pub record IsToldOutside (p : Place) (b : Bound) : Type 0 where
  pub declaration : Declaration
  pub told : Among declaration (declared_on_entering p)
  pub variable : Environment
  pub also : b.also ≡ variable ∷ []
  pub is_it : told_by_declaration declaration ≡ record { identifier = b.identifier; name = b.name; maker = variable.maker }

-- so each is that leaves its block
abbrev pub LeavingAreTold : Tree → Type 0
LeavingAreTold p =
    (q : Place) → Among (entering q) (steps p) → (b : Bound) → Among b (bound_by_node q.node.kind p.source_type q.node q.path) → leaves_block b ≡ true → IsToldOutside q b

-- a name and its identifier alone
pub record Named : Type 0 where
  pub identifier : ℕ
  pub name : Name

abbrev pub named_by_declaration : Declaration → Named
named_by_declaration d = record { identifier = d.naming.identifier; name = d.naming.name }

abbrev pub named_by_bound : Bound → Named
named_by_bound b = record { identifier = b.identifier; name = b.name }

-- at a node that is entered
abbrev pub NamesAsBound : SourceType → Step → Type 0
NamesAsBound s (entering p) =
    map named_by_declaration (declared_on_opening p (opened_scope p 0) ++ declared_on_entering p) ≡ map named_by_bound (bound_by_node p.node.kind s p.node p.path)
NamesAsBound s (opening p o) = Unit {0}
NamesAsBound s (header_ending p o) = Unit {0}
NamesAsBound s (closing p o) = Unit {0}
NamesAsBound s (leaving p) = Unit {0}

-- at each node of the program, wherever it stands
abbrev pub NamesAreBound : Tree → Type 0
NamesAreBound p = EachStep (NamesAsBound p.source_type) (steps p)
