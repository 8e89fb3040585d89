-- What rules look at, with other names.
use Rattle.std.specs.Prelude.{◌≡◌, List, [], ◌∷◌, Bool, true, ◌&&◌, ◌||◌, map, bytes_eq, codes}
use Rattle.std.specs.List.{list_all}
use Rattle.semantic_kinds.specs.declared.kind.AstType.TheVariants as kind
use Rattle.semantic_kinds.specs.declared.role.Role.{Role}
use Rattle.semantic_kinds.specs.declared.role.Role.TheVariants as role
use Rattle.semantic_syntax.specs.Tables.{Name}
use Rattle.semantic_tree.specs.Renamed.{renamed_node}
use Rattle.semantic_tree.specs.Views.{is, has_text, all_in}
use Rattle.semantic_tree.specs.declared.node.Node.{Node}
use Rattle.semantic_tree.specs.declared.swap.Setting.{Setting}
use Rattle.semantic_tree.specs.BoundNames.{bound_names}
use Rattle.semantic_model.specs.Entries.{Among}
use Rattle.semantic_model.specs.Swap.{renamed_symbol}
use Rattle.check_model.specs.Classes.{members}
use Rattle.check_model.specs.Sight.{Sight}

-- the children of a node that stand for labels are labels, but in the named members of tuples
abbrev pub has_plain_labels : Node → Bool
has_plain_labels node = is kind.TSNamedTupleMember node || list_all (is kind.LabelIdentifier) (all_in role.Label node)

-- the pieces of a template that is the key of a member are pieces
abbrev pub has_plain_pieces : Node → Bool
has_plain_pieces member = list_all (λ key. list_all (is kind.TemplateElement) (all_in role.Quasis key)) (all_in role.Key member)

-- the same of each member of a class
abbrev pub has_plain_keys : Node → Bool
has_plain_keys class = list_all has_plain_pieces (members class)

-- labels and pieces of templates are what the table of shapes asks for
pub record HasPlainParts (s : Sight) : Type 0 where
  pub labels : list_all has_plain_labels (s.node ∷ s.path) ≡ true
  pub keys : has_plain_keys s.node ≡ true

module _ (f : Name → Name) where
  -- a node with other names, wherever it stands
  pub data IsRenamed : Node → Node → Type 0 where
    renamed_at : (setting : Setting) (role : Role) (node : Node) → IsRenamed node (renamed_node f setting role node)

  -- nodes with other names, one by one
  abbrev pub AreRenamed : List Node → List Node → Type 0
  AreRenamed [] [] = Unit {0}
  AreRenamed [] (node ∷ nodes) = ⊥
  AreRenamed (node ∷ nodes) [] = ⊥
  AreRenamed (one ∷ nodes) (other ∷ others) = IsRenamed one other × AreRenamed nodes others

  -- the node, those around it and the symbols have other names, and all else is the same; a string literal says what it said
  pub record IsRenamedSight (s t : Sight) : Type 0 where
    pub node : IsRenamed s.node t.node
    pub path : AreRenamed s.path t.path
    pub symbols : t.symbols ≡ map (renamed_symbol f) s.symbols
    pub others : t ≡ record s { node = t.node; path = t.path; symbols = t.symbols }
    pub strings : is kind.StringLiteral s.node ≡ true → t.node.text ≡ s.node.text

-- the parameters of a signature
abbrev pub is_signature_list : Node → Bool
is_signature_list node = is kind.FormalParameters node && has_text (codes "signature") node

-- the names that a node binds, as the parameters of a signature, are the same exactly where they were
abbrev pub KeepsParameters : (Name → Name) → Node → Type 0
KeepsParameters f node = (x y : Name) → Among x (map (λ name. name.text) (bound_names node)) → Among y (map (λ name. name.text) (bound_names node)) → bytes_eq (f x) (f y) ≡ bytes_eq x y
