-- The program in which the symbol has a name that nothing else has. Both the program with the old name and the one with the
-- new name come of it by one name in the place of another.
use Rattle.std.proofs.Common.{◌≡◌, ℕ, Bool, true, false, cond, if◌then◌else◌, Some, None, inl, inr, refl, sym, ap, subst, ◌∙◌, bytes_eq}
use Rattle.std.specs.Prelude.{slice_get}
use Rattle.semantic_kinds.specs.declared.kind.AstType.TheVariants as kind
use Rattle.semantic_kinds.specs.declared.mark.Mark.TheVariants as mark
use Rattle.semantic_kinds.specs.declared.marks.Marks.{Marks}
use Rattle.semantic_kinds.specs.declared.role.Role.TheVariants as role
use Rattle.semantic_syntax.specs.Tables.{Name, Symbol}
use Rattle.semantic_tree.specs.Faults.{first_fault}
use Rattle.semantic_tree.specs.Forest.{Forest, nothing, tree}
use Rattle.semantic_tree.specs.Place.{root_place}
use Rattle.semantic_tree.specs.Renamed.{is_program_name, setting_below, renamed_text, renamed as renamed_forest, renamed_tree}
use Rattle.semantic_tree.specs.Tree.{Tree, IsNumbered}
use Rattle.semantic_tree.specs.declared.node.Node.{Node}
use Rattle.semantic_tree.specs.declared.swap.Setting.{Setting}
use Rattle.semantic_tree.specs.declared.swap.Setting.TheVariants.{Elsewhere}
use Rattle.semantic_model.specs.Analysis.{analysis_of}
use Rattle.semantic_model.specs.Entries.{Among}
use Rattle.semantic_model.specs.Exported.{exported_names}
use Rattle.semantic_model.specs.Step.{steps}
use Rattle.semantic_model.specs.TablesOf.{tables_of}
use Rattle.semantic_model.proofs.form.Shape.{has_form}
use Rattle.semantic_model.proofs.lists.Members.{among_left, among_right}
use Rattle.program_laws.specs.ReadMarks.{without_where}
use Rattle.program_laws.specs.Remarked.{remarked}
use Rattle.program_laws.proofs.TreeNodes.{nodes_below}
use Rattle.rename_model.specs.Refusal.{first_fixed}
use Rattle.rename_model.specs.Renamed.{bears_name, program_renamed}
use Rattle.rename_model.specs.Same.{Same}
use Rattle.rename_model.specs.WithName.{sheds, with_name_alone, with_name, AreIdentifiers}
use Rattle.rename_model.proofs.AloneNames.{are_identifiers}
use Rattle.rename_model.proofs.NameShape.{identifier_cases}
use Rattle.renaming_laws.specs.WrittenOut.{written_out}
use Rattle.renaming_laws.specs.NewNames.{instead}
use Rattle.renaming_laws.proofs.FreshNames.{taken, left}
use Rattle.renaming_laws.proofs.GoingBack.{root_marks, HaveText, have_text}
use Rattle.renaming_laws.proofs.KeptConflicts.{shed_first, still_identifiers}

differ : false ≡ true → ⊥
differ e = cc

-- no node of the forest has the text
abbrev pub AreApart : Name → Forest → Type 0
AreApart z nothing = Unit {0}
AreApart z (tree r k span text marks below id after) = (bytes_eq text z ≡ false) × AreApart z below × AreApart z after

pub apart_below : (z : Name) (f : Forest) → ((x : Node) → Among x (nodes_below f) → bytes_eq x.text z ≡ false) → AreApart z f
apart_below z nothing h = tt
apart_below z (tree r k span text marks below id after) h = (
  h (record { kind = k; span = span; text = text; marks = marks; children = below; node_id = id }) (inl refl),
  apart_below z below (λ x c. h x (inr (among_left x (nodes_below below) (nodes_below after) c))),
  apart_below z after (λ x c. h x (inr (among_right x (nodes_below below) (nodes_below after) c))),
)

still_apart : (z : Name) (g : Node → Marks) (f : Forest) → AreApart z f → AreApart z (remarked g f)
still_apart z g nothing h = tt
still_apart z g (tree r k span text marks below id after) h = (h.0, still_apart z g below h.1, still_apart z g after h.2)

still_text : (chosen : ℕ → Bool) (old : Name) (g : Node → Marks) (f : Forest) → HaveText chosen old f → HaveText chosen old (remarked g f)
still_text chosen old g nothing h = tt
still_text chosen old g (tree r k span text marks below id after) h = (h.0, still_text chosen old g below h.1, still_text chosen old g after h.2)

module _ (chosen : ℕ → Bool) (z w : Name) where
  -- another name in the place of a name that only chosen nodes have
  named_again : (setting : Setting) (f : Forest) → AreIdentifiers chosen f → AreApart z f → renamed_forest (instead z w) setting (with_name_alone chosen z f) ≡ with_name_alone chosen w f
  named_again setting nothing h a = refl
  named_again setting (tree r k span text marks below id after) h a =
      λ i. tree r k span (go (chosen id) (is_program_name setting r k) (λ e. identifier_cases (λ j. is_program_name setting r j ≡ true) refl refl k (h.0 e)) i) marks
      (named_again (setting_below setting r k) below h.1 a.1 i) id (named_again setting after h.2 a.2 i)
    where
      go : (c n : Bool) → (c ≡ true → n ≡ true) → (if n then instead z w (cond c z text) else cond c z text) ≡ cond c w text
      go true true i = taken z w
      go true false i = absurd (differ (i refl))
      go false true i = left z w text a.0
      go false false i = refl

-- chosen nodes that have the name get it
as_it_was : (chosen : ℕ → Bool) (old : Name) (f : Forest) → HaveText chosen old f → with_name_alone chosen old f ≡ f
as_it_was chosen old nothing h = refl
as_it_was chosen old (tree r k span text marks below id after) h =
    λ i. tree r k span (go (chosen id) h.0 i) marks (as_it_was chosen old below h.1 i) id (as_it_was chosen old after h.2 i)
  where
    go : (c : Bool) → (c ≡ true → text ≡ old) → cond c old text ≡ text
    go true e = sym (e refl)
    go false e = refl

module _ (p : Tree) (faultless : first_fault p ≡ None) (numbered : IsNumbered p.root) (s : ℕ) (y : Symbol) (there : slice_get (tables_of p).symbols s ≡ Some y) (free : first_fixed (exported_names (steps p)) (bears_name (analysis_of p) s) (steps p) ≡ None) (z : Name) (apart : AreApart z p.root.children) where
  abbrev chosen : ℕ → Bool
  chosen = bears_name (analysis_of p) s

  abbrev shed : Node → Marks
  shed = without_where (sheds chosen) mark.Shorthand

  abbrev setting : Setting
  setting = setting_below Elsewhere role.Root p.root.kind

  is_program : kind.Program ≡ p.root.kind
  is_program = sym (has_form p faultless).root

  root_text : (f : Name → Name) → renamed_text f Elsewhere role.Root p.root.kind p.root.text ≡ p.root.text
  root_text f = subst (λ k. renamed_text f Elsewhere role.Root k p.root.text ≡ p.root.text) is_program refl

  below : (w : Name) → renamed_forest (instead z w) setting (with_name chosen z p.root.children) ≡ with_name chosen w p.root.children
  below w =
      ap (renamed_forest (instead z w) setting) (shed_first chosen z p.root.children)
      ∙ named_again chosen z w setting (remarked shed p.root.children)
      (still_identifiers chosen z shed p.root.children (are_identifiers p faultless numbered s y there free)) (still_apart z shed p.root.children apart)
      ∙ sym (shed_first chosen w p.root.children)

  -- any name in its place
  pub becomes : (w : Name) → renamed_tree (instead z w) (program_renamed p (analysis_of p) s z) ≡ program_renamed p (analysis_of p) s w
  becomes w = λ i. record p { root = record p.root { text = root_text (instead z w) i; children = below w i } }

  -- the old name in its place
  pub old_comes_back : (new : Name) → Same p (program_renamed p (analysis_of p) s new) → renamed_tree (instead z y.name) (program_renamed p (analysis_of p) s z) ≡ written_out p s
  old_comes_back new same =
      becomes y.name
      ∙ (λ i. record p {
        root = record p.root {
          marks = sym (root_marks chosen p.root is_program) i;
          children = (shed_first chosen y.name p.root.children
              ∙ as_it_was chosen y.name (remarked shed p.root.children)
              (still_text chosen y.name shed p.root.children (have_text p faultless numbered s y there new free same root_place p.root.kind p.root.children (λ here x a. inr a)))) i;
        };
      })
