-- What a name means at a place: the declarations of the nearest container outward that has one of the name in a meaning that is asked for.
use Rattle.std.specs.Prelude.{ℕ, List, [], ◌∷◌, Bool, ◌&&◌, ◌||◌, Option, Some, None, cond, map, filter, filter_map, bytes_eq}
use Rattle.std.specs.List.{list_any}
use Rattle.semantic_kinds.specs.declared.kind.AstType.TheVariants as kind
use Rattle.semantic_syntax.specs.Tables.{Name}
use Rattle.semantic_syntax.specs.declared.source_type.SourceType.{SourceType}
use Rattle.semantic_tree.specs.Tree.{Tree}
use Rattle.semantic_tree.specs.Views.{is}
use Rattle.semantic_model.specs.Place.{Place}
use Rattle.semantic_model.specs.Step.{Step, entering, steps}
use Rattle.typescript_ties.specs.AskedMeanings.{asked_by_reference}
use Rattle.typescript_ties.specs.Containers.{Container, same_container, containers}
use Rattle.typescript_ties.specs.MeaningSets.{MeaningSet, shares_meaning, sort_meanings}
use Rattle.typescript_ties.specs.NamedDeclarations.{NamedDeclaration, named_in}

pub data Resolved : Type 0 where
  -- no container has it in such a meaning
  nowhere : Resolved
  -- the container has it, declared by these identifiers
  declared_in : Container → List ℕ → Resolved

-- whether the container has the name by the declaration
abbrev pub has_declared : Container → Name → NamedDeclaration → Bool
has_declared c name d = bytes_eq d.name name && (same_container d.container c || list_any (λ e. same_container e c) d.also)

-- all declarations of the name in the container
abbrev pub declarations_in : List NamedDeclaration → Container → Name → List NamedDeclaration
declarations_in ds c name = filter (has_declared c name) ds

abbrev pub has_meaning : MeaningSet → NamedDeclaration → Bool
has_meaning asked d = shares_meaning asked (sort_meanings d.sort)

-- what the name means in these containers, innermost first
abbrev pub resolve : List NamedDeclaration → List Container → MeaningSet → Name → Resolved
resolve ds [] asked name = nowhere
resolve ds (c ∷ cs) asked name =
    cond (list_any (has_meaning asked) (declarations_in ds c name)) (declared_in c (map (λ d. d.identifier) (declarations_in ds c name))) (resolve ds cs asked name)

-- a reference with what it asks for and the containers round it
pub record NameUse : Type 0 where
  pub node : ℕ
  pub name : Name
  pub asked : MeaningSet
  pub round : List Container

abbrev pub name_use : SourceType → Place → NameUse
name_use s p = record {
  node = p.node.node_id;
  name = p.node.text;
  asked = asked_by_reference p.path;
  round = containers s p.node p.path;
}

abbrev pub used_at : SourceType → Step → Option NameUse
used_at s (entering p) = cond (is kind.IdentifierReference p.node) (Some (name_use s p)) None
used_at s _ = None

-- the identifier references in preorder
abbrev pub name_uses : Tree → List NameUse
name_uses p = filter_map (used_at p.source_type) (steps p)

abbrev pub resolved_by : List NamedDeclaration → NameUse → Resolved
resolved_by ds u = resolve ds u.round u.asked u.name

-- a reference and what it means
pub record ResolvedUse : Type 0 where
  pub node : ℕ
  pub resolved : Resolved

-- what each identifier reference of a program means
abbrev pub resolved_uses : Tree → List ResolvedUse
resolved_uses p = map (λ u. record { node = u.node; resolved = resolved_by (named_in p) u }) (name_uses p)
