-- Nodes with other names, in which marks `shorthand` may be gone.
use Rattle.std.proofs.Common.{◌≡◌, true, false, ◌&&◌, map}
use Rattle.semantic_kinds.specs.MarkSets.{has_mark}
use Rattle.semantic_kinds.specs.Marks.{same_mark}
use Rattle.semantic_kinds.specs.declared.kind.AstType.TheVariants as kind
use Rattle.semantic_kinds.specs.declared.mark.Mark.{Mark}
use Rattle.semantic_kinds.specs.declared.mark.Mark.TheVariants as mark
use Rattle.semantic_kinds.specs.declared.marks.Marks.{Marks}
use Rattle.semantic_kinds.specs.declared.role.Role.{Role}
use Rattle.semantic_kinds.specs.declared.role.Role.TheVariants as role
use Rattle.semantic_syntax.specs.Tables.{Name}
use Rattle.semantic_tree.specs.Forest.{Forest}
use Rattle.semantic_tree.specs.Renamed.{renamed, renamed_node, renamed_tree}
use Rattle.semantic_tree.specs.Tree.{Tree}
use Rattle.semantic_tree.specs.Views.{is, whose}
use Rattle.semantic_tree.specs.declared.node.Node.{Node}
use Rattle.semantic_tree.specs.declared.swap.Setting.{Setting}
use Rattle.semantic_model.specs.Swap.{renamed_symbol}
use Rattle.check_model.specs.Expressions.{is_proto}
use Rattle.check_model.specs.Sight.{Sight}
use Rattle.program_laws.specs.Remarked.{remarked, remarked_node, remarked_tree}
use Rattle.swapped_checks.proofs.Pairwise.{Each}

-- other names and other marks: all stay but `shorthand`, and that too where a key is named `__proto__`
pub record Change : Type 0 where
  pub names : Name → Name
  pub marks : Node → Marks
  pub kept : (node : Node) (m : Mark) → same_mark m mark.Shorthand ≡ false → has_mark (marks node) m ≡ has_mark node.marks m
  pub prototypes : (node : Node) → (is kind.ObjectProperty node && whose role.Key is_proto node) ≡ true → has_mark (marks node) mark.Shorthand ≡ has_mark node.marks mark.Shorthand

module _ (f : Change) where
  abbrev pub changed : Setting → Forest → Forest
  changed st g = renamed f.names st (remarked f.marks g)

  abbrev pub changed_node : Setting → Role → Node → Node
  changed_node st r node = renamed_node f.names st r (remarked_node f.marks node)

  -- a changed node, wherever it stands
  pub data IsChanged : Node → Node → Type 0 where
    changed_at : (st : Setting) (r : Role) (node : Node) → IsChanged node (changed_node st r node)

  abbrev pub changed_tree : Tree → Tree
  changed_tree p = renamed_tree f.names (remarked_tree f.marks p)

  -- the node and those around it are changed, the symbols have other names, and all else is the same; a string literal says what it said
  pub record IsChangedSight (s t : Sight) : Type 0 where
    pub node : IsChanged s.node t.node
    pub path : Each IsChanged s.path t.path
    pub symbols : t.symbols ≡ map (renamed_symbol f.names) s.symbols
    pub others : t ≡ record s { node = t.node; path = t.path; symbols = t.symbols }
    pub strings : is kind.StringLiteral s.node ≡ true → t.node.text ≡ s.node.text
