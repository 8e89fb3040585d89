-- Where exactly some nodes have a name, and none has another, the other name alone is that of the program with the two swapped.
use Rattle.std.proofs.Common.{◌≡◌, ℕ, Bool, true, false, cond, if◌then◌else◌, refl, sym, ap, subst, ◌∙◌, bytes_eq}
use Rattle.semantic_kinds.specs.declared.kind.AstType.{AstType}
use Rattle.semantic_kinds.specs.declared.kind.AstType.TheVariants as kind
use Rattle.semantic_kinds.specs.declared.mark.Mark.TheVariants as mark
use Rattle.semantic_kinds.specs.declared.marks.Marks.{Marks}
use Rattle.semantic_kinds.specs.declared.role.Role.{Role}
use Rattle.semantic_kinds.specs.declared.role.Role.TheVariants as role
use Rattle.semantic_syntax.specs.Tables.{Name, Tables}
use Rattle.semantic_tree.specs.Forest.{Forest, nothing, tree}
use Rattle.semantic_tree.specs.Renamed.{swap, is_program_name, setting_below, renamed_text, renamed, swapped_tree}
use Rattle.semantic_tree.specs.Tree.{Tree}
use Rattle.semantic_tree.specs.declared.node.Node.{Node}
use Rattle.semantic_tree.specs.declared.swap.Setting.{Setting}
use Rattle.semantic_tree.specs.declared.swap.Setting.TheVariants.{Elsewhere}
use Rattle.semantic_model.specs.NodeTable.{NodeTables, node_tables}
use Rattle.semantic_model.specs.Step.{steps}
use Rattle.semantic_model.specs.Swap.{IsSwappable, swapped_tables}
use Rattle.semantic_model.specs.TablesOf.{tables_of}
use Rattle.semantic_model.proofs.swapped.AlikeNodes.{node_tables_renamed}
use Rattle.semantic_model.proofs.swapped.AlikeProgram.{Keeps, swap_keeps}
use Rattle.semantic_model.proofs.swapped.AlikeTies.{tables_renamed}
use Rattle.program_laws.specs.ReadMarks.{without_where, unmarked_tree}
use Rattle.program_laws.specs.Remarked.{remarked}
use Rattle.program_laws.specs.SameAnalysis.{HaveSameAnalysis}
use Rattle.rename_model.specs.WithName.{sheds, with_name_alone, with_name, with_name_in}
use Rattle.program_laws.proofs.TableMarks.{same_unmarked}
use Rattle.semantic_model.specs.Analysis.{symbol_at, tied_at}
use Rattle.rename_model.specs.Same.{Same}

-- a chosen node has the old name, and is the only kind that has; no node has the new name
pub record Bears (chosen : ℕ → Bool) (old new : Name) (setting : Setting) (r : Role) (k : AstType) (text : Name) (id : ℕ) : Type 0 where
  pub named : chosen id ≡ true → is_program_name setting r k ≡ true
  pub has_old : chosen id ≡ true → bytes_eq text old ≡ true
  pub only : is_program_name setting r k ≡ true → bytes_eq text old ≡ true → chosen id ≡ true
  pub not_new : is_program_name setting r k ≡ true → bytes_eq text new ≡ false

abbrev pub AloneIn : (ℕ → Bool) → (old new : Name) → Setting → Forest → Type 0
AloneIn chosen old new setting nothing = Unit {0}
AloneIn chosen old new setting (tree r k span text marks below id after) =
    Bears chosen old new setting r k text id × AloneIn chosen old new (setting_below setting r k) below × AloneIn chosen old new setting after

text_same : (chosen : ℕ → Bool) (a b : Name) (setting : Setting) (r : Role) (k : AstType) (text : Name) (id : ℕ) → Bears chosen a b setting r k text id → cond (chosen id) b text ≡ renamed_text (swap a b) setting r k text
text_same chosen a b setting r k text id w = go (chosen id) (is_program_name setting r k) (bytes_eq text a) (bytes_eq text b) w.named w.has_old w.only w.not_new
  where
    differ : false ≡ true → ⊥
    differ f = absurd cc

    go : (c n x y : Bool) → (c ≡ true → n ≡ true) → (c ≡ true → x ≡ true) → (n ≡ true → x ≡ true → c ≡ true) → (n ≡ true → y ≡ false) → cond c b text ≡ (if n then (if x then b else (if y then a else text)) else text)
    go true true true y h i j l = refl
    go true true false y h i j l = absurd (differ (i refl))
    go true false x y h i j l = absurd (differ (h refl))
    go false true true y h i j l = absurd (differ (j refl refl))
    go false true false true h i j l = absurd (differ (sym (l refl)))
    go false true false false h i j l = refl
    go false false x y h i j l = refl

alone_is_swapped : (chosen : ℕ → Bool) (a b : Name) (setting : Setting) (f : Forest) → AloneIn chosen a b setting f → with_name_alone chosen b f ≡ renamed (swap a b) setting f
alone_is_swapped chosen a b setting nothing w = refl
alone_is_swapped chosen a b setting (tree r k span text marks below id after) w =
    λ i. tree r k span (text_same chosen a b setting r k text id w.0 i) marks (alone_is_swapped chosen a b (setting_below setting r k) below w.1 i) id (alone_is_swapped chosen a b setting after w.2 i)

-- ---- marks do not matter

alone_remarked : (chosen : ℕ → Bool) (a b : Name) (g : Node → Marks) (setting : Setting) (f : Forest) → AloneIn chosen a b setting f → AloneIn chosen a b setting (remarked g f)
alone_remarked chosen a b g setting nothing w = tt
alone_remarked chosen a b g setting (tree r k span text marks below id after) w = (w.0, alone_remarked chosen a b g (setting_below setting r k) below w.1, alone_remarked chosen a b g setting after w.2)

shed_first : (chosen : ℕ → Bool) (name : Name) (f : Forest) → with_name chosen name f ≡ with_name_alone chosen name (remarked (without_where (sheds chosen) mark.Shorthand) f)
shed_first chosen name nothing = refl
shed_first chosen name (tree r k span text marks below id after) =
    let node : Node = record { kind = k; span = span; text = text; marks = marks; children = below; node_id = id } in
    λ i. tree r k span (cond (chosen id) name text) (without_where (sheds chosen) mark.Shorthand node) (shed_first chosen name below i) id (shed_first chosen name after i)

-- ---- the program

module _ (chosen : ℕ → Bool) (a b : Name) (p : Tree) where
  abbrev unmarked : Tree
  unmarked = unmarked_tree (sheds chosen) mark.Shorthand p

  root_text : kind.Program ≡ p.root.kind → renamed_text (swap a b) Elsewhere role.Root p.root.kind p.root.text ≡ p.root.text
  root_text e = subst (λ k. renamed_text (swap a b) Elsewhere role.Root k p.root.text ≡ p.root.text) e refl

  root_setting : kind.Program ≡ p.root.kind → Elsewhere ≡ setting_below Elsewhere role.Root p.root.kind
  root_setting e = subst (λ k. Elsewhere ≡ setting_below Elsewhere role.Root k) e refl

  root_marks : kind.Program ≡ p.root.kind → without_where (sheds chosen) mark.Shorthand p.root ≡ p.root.marks
  root_marks e = ap (without_where (sheds chosen) mark.Shorthand) (λ i. record p.root { kind = sym e i })

  is_swapped : kind.Program ≡ p.root.kind → AloneIn chosen a b Elsewhere p.root.children → with_name_in chosen b p ≡ swapped_tree a b unmarked
  is_swapped e w =
      let shed : Forest = remarked (without_where (sheds chosen) mark.Shorthand) p.root.children in
      let below : with_name chosen b p.root.children ≡ renamed (swap a b) (setting_below Elsewhere role.Root p.root.kind) shed = shed_first chosen b p.root.children ∙ alone_is_swapped chosen a b Elsewhere shed (alone_remarked chosen a b (without_where (sheds chosen) mark.Shorthand) Elsewhere p.root.children w) ∙ ap (λ s. renamed (swap a b) s shed) (root_setting e) in
      λ i. record p { root = record p.root { text = sym (root_text e) i; marks = sym (root_marks e) i; children = below i } }

  -- the same but for two swapped names is the same
  same_meaning : (q : Tree) → tables_of q ≡ swapped_tables a b (tables_of p) → node_tables (steps q) ≡ node_tables (steps p) → Same p q
  same_meaning q e f n h = record {
    symbol = sym (ap (λ (owns : NodeTables). symbol_at (record { tables = tables_of q; owns = owns }) n) f);
    tied = sym (ap (λ (t : Tables). tied_at (record { tables = t; owns = node_tables (steps q) }) n) e ∙ ap (λ (owns : NodeTables). tied_at (record { tables = tables_of p; owns = owns }) n) f);
  }

  pub alone_means_same : kind.Program ≡ p.root.kind → IsSwappable a → IsSwappable b → AloneIn chosen a b Elsewhere p.root.children → Same p (with_name_in chosen b p)
  alone_means_same e h k w =
      let keeps : Keeps (swap a b) = swap_keeps a b h.not_eval k.not_eval h.not_arguments k.not_arguments in
      let marks : HaveSameAnalysis unmarked p = same_unmarked (sheds chosen) mark.Shorthand p refl in
      let is : with_name_in chosen b p ≡ swapped_tree a b unmarked = is_swapped e w in
      same_meaning (with_name_in chosen b p)
      (ap tables_of is ∙ tables_renamed (swap a b) keeps unmarked ∙ ap (swapped_tables a b) marks.tables)
      (ap (λ q. node_tables (steps q)) is ∙ node_tables_renamed (swap a b) keeps unmarked ∙ marks.at_nodes)
