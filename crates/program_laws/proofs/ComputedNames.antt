-- Small programs, computed: where names by role are bound, and where they are not.
use Rattle.std.proofs.Common.{◌≡◌, ℕ, List, [], ◌∷◌, get_or, length, refl, ap, subst, inl, inr, None, codes, map, arith}
use Rattle.semantic_syntax.specs.declared.source_type.Goal.TheVariants as goal
use Rattle.semantic_syntax.specs.declared.source_type.Lang.TheVariants as lang
use Rattle.semantic_kinds.specs.declared.kind.AstType.{AstType}
use Rattle.semantic_kinds.specs.declared.kind.AstType.TheVariants as kind
use Rattle.semantic_kinds.specs.declared.role.Role.{Role}
use Rattle.semantic_kinds.specs.declared.role.Role.TheVariants as role
use Rattle.semantic_kinds.specs.MarkSets.{no_marks}
use Rattle.semantic_tree.specs.BoundNames as by_role
use Rattle.semantic_tree.specs.Faults.{first_fault}
use Rattle.semantic_tree.specs.Forest.{Forest, nothing, tree, join}
use Rattle.semantic_tree.specs.Place.{root_place, all_placed}
use Rattle.semantic_tree.specs.Tree.{Tree, IsNumbered, numbered_tree}
use Rattle.semantic_tree.specs.declared.node.Node.{Node}
use Rattle.semantic_tree.specs.declared.place.Place.{Place}
use Rattle.semantic_model.specs.Entries.{Among}
use Rattle.semantic_model.specs.Names as by_kind
use Rattle.program_laws.specs.NamesAlike.{operand_kinds, NamesDiffer}

-- a node with its text and what is below it; the programs have no source, and ids are given in the end
abbrev node : Role → AstType → List ℕ → Forest → Forest
node r k text below = tree r k (record { start = 0; end = 0 }) text no_marks below 0 nothing

abbrev program : Forest → Tree
program below = numbered_tree (record {
  source = [];
  source_type = record { goal = goal.Script; lang = lang.Jsx };
  comments = [];
  root = record { kind = kind.Program; span = record { start = 0; end = 0 }; text = []; marks = no_marks; children = below; node_id = 0 };
})

-- `function f() {}`, an expression in a role
abbrev named_function : Role → Forest
named_function r =
    node r kind.Function (codes "expression")
    (join (node role.Id kind.BindingIdentifier (codes "f") nothing)
    (join (node role.Params kind.FormalParameters (codes "formal") nothing)
    (node role.Body kind.FunctionBody [] nothing)))

-- an expression as a statement
abbrev expression : AstType → List ℕ → Forest → Tree
expression k text below = program (node role.Body kind.ExpressionStatement [] (node role.Expression k text below))

-- the node with the number, at its place
abbrev nth : ℕ → Tree → Place × Node
nth n p = get_or (all_placed p.root) n (root_place, p.root)

differing : (p : Tree) (n : ℕ) → first_fault p ≡ None → IsNumbered p.root → Among (nth n p) (all_placed p.root) → length (by_role.bound_names (nth n p).1) ≡ 1 → length (by_kind.bound_names (nth n p).1) ≡ 0 → NamesDiffer (nth n p).1.kind
differing p n h i a one none = record {
  program = p;
  faultless = h;
  numbered = i;
  place = (nth n p).0;
  node = (nth n p).1;
  among = a;
  of_kind = refl;
  differ = λ e. absurd (omega (arith, one, none, ap (λ names. length names) e));
}

-- in each of these programs the name of a function is found by role, and nothing is bound
pub names_differ : (k : AstType) → Among k operand_kinds → NamesDiffer k
names_differ k (inl e) = subst NamesDiffer e (differing (expression kind.ArrayExpression [] (named_function role.Elements)) 2 refl refl (inr (inr (inl refl))) refl refl)
names_differ k (inr (inl e)) = subst NamesDiffer e (differing (expression kind.ObjectExpression [] (node role.Properties kind.SpreadElement [] (named_function role.Argument))) 2 refl refl (inr (inr (inl refl))) refl refl)
names_differ k (inr (inr (inl e))) = subst NamesDiffer e (differing (expression kind.ArrayExpression [] (node role.Elements kind.SpreadElement [] (named_function role.Argument))) 3 refl refl (inr (inr (inr (inl refl)))) refl refl)
names_differ k (inr (inr (inr (inl e)))) = subst NamesDiffer e (differing (expression kind.JSXElement [] (node role.Opening kind.JSXOpeningElement [] (join (node role.Name kind.JSXIdentifier (codes "a") nothing) (node role.Attributes kind.JSXSpreadAttribute [] (named_function role.Argument))))) 5 refl refl (inr (inr (inr (inr (inr (inl refl)))))) refl refl)
names_differ k (inr (inr (inr (inr (inl e))))) = subst NamesDiffer e (differing (expression kind.UnaryExpression (codes "void") (named_function role.Argument)) 2 refl refl (inr (inr (inl refl))) refl refl)
names_differ k (inr (inr (inr (inr (inr (inl e)))))) = subst NamesDiffer e (differing (expression kind.AwaitExpression [] (named_function role.Argument)) 2 refl refl (inr (inr (inl refl))) refl refl)
names_differ k (inr (inr (inr (inr (inr (inr (inl e))))))) = subst NamesDiffer e (differing (expression kind.YieldExpression [] (named_function role.Argument)) 2 refl refl (inr (inr (inl refl))) refl refl)
names_differ k (inr (inr (inr (inr (inr (inr (inr (inl e)))))))) = subst NamesDiffer e (differing (expression kind.ImportExpression [] (named_function role.Argument)) 2 refl refl (inr (inr (inl refl))) refl refl)
names_differ k (inr (inr (inr (inr (inr (inr (inr (inr (inl e))))))))) = subst NamesDiffer e (differing (program (node role.Body kind.ReturnStatement [] (named_function role.Argument))) 1 refl refl (inr (inl refl)) refl refl)
names_differ k (inr (inr (inr (inr (inr (inr (inr (inr (inr (inl e)))))))))) = subst NamesDiffer e (differing (program (node role.Body kind.ThrowStatement [] (named_function role.Argument))) 1 refl refl (inr (inl refl)) refl refl)
names_differ k (inr (inr (inr (inr (inr (inr (inr (inr (inr (inr a)))))))))) = absurd a

-- `let { a, b: [c = function f() {}, ...d] };`
abbrev patterns : Tree
patterns =
    program
    (node role.Body kind.VariableDeclaration (codes "let")
    (node role.Declarators kind.VariableDeclarator []
    (node role.Id kind.ObjectPattern []
    (join
    (node role.Properties kind.BindingProperty []
    (join (node role.Key kind.IdentifierName (codes "a") nothing)
    (node role.Value kind.BindingIdentifier (codes "a") nothing)))
    (node role.Properties kind.BindingProperty []
    (join (node role.Key kind.IdentifierName (codes "b") nothing)
    (node role.Value kind.ArrayPattern []
    (join
    (node role.Elements kind.AssignmentPattern []
    (join (node role.Left kind.BindingIdentifier (codes "c") nothing)
    (named_function role.Right)))
    (node role.Rest kind.BindingRestElement []
    (node role.Argument kind.BindingIdentifier (codes "d") nothing))))))))))

patterns_fit : first_fault patterns ≡ None
patterns_fit = refl

-- the declaration binds `a`, `c` and `d`
patterns_bind : map (λ name. name.text) (by_role.bound_names (nth 1 patterns).1) ≡ codes "a" ∷ codes "c" ∷ codes "d" ∷ []
patterns_bind = refl

patterns_bind_alike : by_kind.bound_names (nth 1 patterns).1 ≡ by_role.bound_names (nth 1 patterns).1
patterns_bind_alike = refl
