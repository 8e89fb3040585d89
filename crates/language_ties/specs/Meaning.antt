-- What a name means at a place: the binding of the nearest environment outward (ECMA-262, 9.1.2.1, GetIdentifierReference).
use Rattle.std.specs.Prelude.{ℕ, List, [], ◌∷◌, Bool, ◌&&◌, ◌||◌, Option, Some, None, cond, map, filter, filter_map, codes, bytes_eq}
use Rattle.std.specs.List.{list_any}
use Rattle.semantic_kinds.specs.declared.kind.AstType.TheVariants as kind
use Rattle.semantic_syntax.specs.Tables.{Name}
use Rattle.semantic_tree.specs.Tree.{Tree}
use Rattle.semantic_tree.specs.Views.{is}
use Rattle.semantic_model.specs.Place.{Place}
use Rattle.semantic_model.specs.Step.{Step, entering, steps}
use Rattle.language_ties.specs.Bound.{Bound}
use Rattle.language_ties.specs.Environments.{Environment, is_made_for, same_environment, environments}
use Rattle.language_ties.specs.Moved.{bound_of}
use Rattle.language_ties.specs.declared.environment_kind.EnvironmentKind.TheVariants as environment

pub data Meaning : Type 0 where
  -- no environment binds the name: it is a global object's, or nothing's
  unbound : Meaning
  -- the object of a `with` may have the name
  of_object : Environment → Meaning
  -- the environment binds it, by these identifiers; `arguments` by none
  bound : Environment → List ℕ → Meaning

-- whether the environment binds the name by the identifier
abbrev pub is_bound_in : Environment → Name → Bound → Bool
is_bound_in e name b = bytes_eq b.name name && (same_environment b.environment e || list_any (λ d. same_environment d e) b.also)

-- the identifiers by which it does
abbrev pub identifiers_in : List Bound → Environment → Name → List ℕ
identifiers_in bs e name = map (λ b. b.identifier) (filter (is_bound_in e name) bs)

-- a function that is no arrow binds `arguments` by itself (10.2.11, steps 15 to 22)
abbrev pub binds_arguments : Environment → Name → Bool
binds_arguments e name = is_made_for environment.Parameters e && bytes_eq name (codes "arguments")

abbrev pub bound_or : Environment → List ℕ → Meaning → Meaning
bound_or e [] later = later
bound_or e (id ∷ ids) later = bound e (id ∷ ids)

-- what the name means in these environments, innermost first
abbrev pub meaning : List Bound → List Environment → Name → Meaning
meaning bs [] name = unbound
meaning bs (e ∷ es) name =
    cond (is_made_for environment.Object e)
    (of_object e)
    (bound_or e (identifiers_in bs e name) (cond (binds_arguments e name) (bound e []) (meaning bs es name)))

-- what it means there if no object of a `with` has it
abbrev pub meaning_past_objects : List Bound → List Environment → Name → Meaning
meaning_past_objects bs [] name = unbound
meaning_past_objects bs (e ∷ es) name =
    bound_or e (identifiers_in bs e name) (cond (binds_arguments e name) (bound e []) (meaning_past_objects bs es name))

-- a reference with the environments round it
pub record Use : Type 0 where
  pub node : ℕ
  pub name : Name
  pub round : List Environment

abbrev pub use_at : Place → Use
use_at p = record { node = p.node.node_id; name = p.node.text; round = environments p.node p.path }

abbrev pub entered_use : Step → Option Use
entered_use (entering p) = cond (is kind.IdentifierReference p.node) (Some (use_at p)) None
entered_use _ = None

-- the identifier references in preorder
abbrev pub uses : List Step → List Use
uses walk = filter_map entered_use walk

-- a reference and what it means
pub record Meant : Type 0 where
  pub node : ℕ
  pub meaning : Meaning

abbrev pub meant_by : List Bound → Use → Meant
meant_by bs u = record { node = u.node; meaning = meaning bs u.round u.name }

-- what each identifier reference of a program means
abbrev pub meanings : Tree → List Meant
meanings p = map (meant_by (bound_of p)) (uses (steps p))
