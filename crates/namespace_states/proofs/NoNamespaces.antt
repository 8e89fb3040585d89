-- A program without namespaces.
use Rattle.std.proofs.Common.{◌≡◌, ℕ, List, [], ◌∷◌, Bool, true, false, cond, inl, inr, refl, ap, subst, arith}
use Rattle.semantic_kinds.specs.Kinds.{same_kind}
use Rattle.semantic_kinds.specs.declared.kind.AstType.{AstType}
use Rattle.semantic_kinds.specs.declared.kind.AstType.TheVariants as kind
use Rattle.semantic_kinds.specs.declared.role.Role.TheVariants as role
use Rattle.semantic_tree.specs.Children.{single}
use Rattle.semantic_tree.specs.KindCounts.{kind_count}
use Rattle.semantic_tree.specs.Forest.{Forest, nothing, tree}
use Rattle.semantic_tree.specs.Tree.{Tree}
use Rattle.semantic_tree.specs.declared.node.Node.{Node}
use Rattle.semantic_model.specs.Entries.{Among}
use Rattle.semantic_tree.specs.Views.{is}
use Rattle.semantic_model.specs.Place.{Place}
use Rattle.semantic_model.specs.Step.{entering, steps}
use Rattle.semantic_model.specs.Namespace.{Item}
use Rattle.semantic_model.proofs.alone.BodyFollows.{kind_flips}
use Rattle.namespace_states.specs.Reaches.{statement_at}
use Rattle.namespace_states.specs.Statements.{lists_inside, items_below, items_from}
use Rattle.namespace_states.proofs.Lists.{among-append}
use Rattle.namespace_states.proofs.Around.{place-in}

-- a node that doesn't count as a namespace is none
not-one : (k : AstType) → ◌≡◌ {A = ℕ} (cond (same_kind kind.TSNamespaceDeclaration k) 1 0) 0 → same_kind k kind.TSNamespaceDeclaration ≡ false
not-one k none = by (same_kind k kind.TSNamespaceDeclaration) refl
  where
    by : (b : Bool) → same_kind k kind.TSNamespaceDeclaration ≡ b → b ≡ false
    by true h = absurd (omega (arith, none, ap {B = ℕ} (λ b. cond b 1 0) (kind_flips k kind.TSNamespaceDeclaration h)))
    by false h = refl

none-below : (lists : List (List Node)) (f : Forest) → kind_count kind.TSNamespaceDeclaration f ≡ 0 → (i : Item) → Among i (items_below lists f) → is kind.TSNamespaceDeclaration i.node ≡ false
none-below lists nothing none i a = absurd a
none-below lists (tree role k span text marks below id after) none i a =
    let node : Node = record { kind = k; span = span; text = text; marks = marks; children = below; node_id = id } in
    let first : Item = record { node = node; lists = lists } in
    let inside : List (List Node) = lists_inside node lists in
    elim (among-append i (first ∷ items_below inside below) (items_below lists after) a) [
      | inl b ↦ elim b [
        | inl e ↦ subst (λ (x : Item). is kind.TSNamespaceDeclaration x.node ≡ false) e (not-one k (omega (arith, none)))
        | inr c ↦ none-below inside below (omega (arith, none)) i c
      ]
      | inr b ↦ none-below lists after (omega (arith, none)) i b
    ]

none-from : (root : Node) → kind_count kind.TSNamespaceDeclaration (single role.Root root) ≡ 0 → (i : Item) → Among i (items_from root) → is kind.TSNamespaceDeclaration i.node ≡ false
none-from root none i a = elim a [
  | inl e ↦ subst (λ (x : Item). is kind.TSNamespaceDeclaration x.node ≡ false) e (not-one root.kind (omega (arith, none)))
  | inr b ↦ none-below (lists_inside root []) root.children (omega (arith, none)) i b
]

-- no place of it is one
pub no-namespace : (program : Tree) → kind_count kind.TSNamespaceDeclaration (single role.Root program.root) ≡ 0 → (p : Place) → Among (entering p) (steps program) → is kind.TSNamespaceDeclaration p.node ≡ true → ⊥
no-namespace program h p a t = clash (is kind.TSNamespaceDeclaration p.node) t (none-from program.root h (statement_at p) (place-in program p a))
  where
    clash : (b : Bool) → b ≡ true → b ≡ false → ⊥
    clash true p q = cc
    clash false p q = cc
