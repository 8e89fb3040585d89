-- What is asked in small programs, by computation.
use Rattle.std.proofs.Common.{◌≡◌, ℕ, List, [], codes, refl}
use Rattle.semantic_syntax.specs.declared.source_type.Goal.TheVariants as goal
use Rattle.semantic_syntax.specs.declared.source_type.Lang.TheVariants as lang
use Rattle.semantic_kinds.specs.MarkSets.{no_marks}
use Rattle.semantic_kinds.specs.declared.kind.AstType.{AstType}
use Rattle.semantic_kinds.specs.declared.kind.AstType.TheVariants as kind
use Rattle.semantic_kinds.specs.declared.role.Role.{Role}
use Rattle.semantic_kinds.specs.declared.role.Role.TheVariants as role
use Rattle.semantic_syntax.specs.Source.{chain_within}
use Rattle.semantic_tree.specs.Forest.{Forest, nothing, tree, join}
use Rattle.semantic_tree.specs.Tree.{Tree, numbered_tree}
use Rattle.semantic_model.specs.Step.{steps}
use Rattle.semantic_model.specs.Event.{written_declarations}
use Rattle.semantic_model.specs.TablesOf.{tables_of}
use Rattle.semantic_model.proofs.examples.SmallPrograms.{use_before_var, default_sees_outside, nested_headers, arguments_outside}
use Rattle.walk_model.specs.WalkState.{nothing_made}
use Rattle.walk_model.specs.Probes.{probes, probes_of_steps, depths}

abbrev node : Role → AstType → List ℕ → Forest → Forest
node r k text below = tree r k (record { start = 0; end = 0 }) text no_marks below 0 nothing

abbrev default_function : Role → List ℕ → List ℕ → Forest → Forest
default_function r text name default =
    node r kind.Function text
    (join (node role.Id kind.BindingIdentifier name nothing)
    (join
    (node role.Params kind.FormalParameters (codes "formal")
    (node role.Items kind.FormalParameter []
    (join (node role.Pattern kind.BindingIdentifier (codes "a") nothing) default)))
    (node role.Body kind.FunctionBody [] nothing)))

-- `function f(a = function g(a = y) {}) {} var y;`
abbrev empty_bodies : Tree
empty_bodies =
    numbered_tree (record {
      source = [];
      source_type = record { goal = goal.Script; lang = lang.Js };
      comments = [];
      root = record {
        kind = kind.Program;
        span = record { start = 0; end = 0 };
        text = [];
        marks = no_marks;
        children = join
            (default_function role.Body (codes "declaration") (codes "f")
            (default_function role.Initializer (codes "expression") (codes "g")
            (node role.Initializer kind.IdentifierReference (codes "y") nothing)))
            (node role.Body kind.VariableDeclaration (codes "var")
            (node role.Declarators kind.VariableDeclarator []
            (node role.Id kind.BindingIdentifier (codes "y") nothing)));
        node_id = 0;
      };
    })

-- a name in the root's scope asks that scope alone
use_before_var_asks : probes use_before_var ≡ 1
use_before_var_asks = refl

-- a default asks the function's scope and the root's
default_asks : probes default_sees_outside ≡ 2
default_asks = refl

-- a default in a default asks each scope around it once, whatever the bodies declare
nested_asks : probes nested_headers ≡ 3
nested_asks = refl

empty_asks : probes empty_bodies ≡ 3
empty_asks = refl

-- two of them are asked at the ends of the headers, and the root's in the end
empty_on_the_way : probes_of_steps (written_declarations (steps empty_bodies)) nothing_made (steps empty_bodies) ≡ 2
unfolding chain_within
empty_on_the_way = refl

-- which is as deep as its scope lies
empty_depths : depths (tables_of empty_bodies) ≡ 3
unfolding chain_within
empty_depths = refl

-- `arguments` isn't looked up past its function
arguments_asks : probes arguments_outside ≡ 1
arguments_asks = refl
