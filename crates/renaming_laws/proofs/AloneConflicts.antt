-- Where a name is a symbol's alone, and another is used nowhere, all conflicts stay, with the two names swapped.
use Rattle.std.proofs.Common.{◌≡◌, ℕ, [], Bool, true, false, cond, if◌then◌else◌, Some, None, Ok, inl, inr, refl, sym, ap, subst, ◌∙◌, map, bytes_eq, codes}
use Rattle.std.specs.Prelude.{slice_get}
use Rattle.semantic_kinds.specs.declared.kind.AstType.{AstType}
use Rattle.semantic_kinds.specs.declared.kind.AstType.TheVariants as kind
use Rattle.semantic_kinds.specs.declared.mark.Mark.TheVariants as mark
use Rattle.semantic_kinds.specs.declared.marks.Marks.{Marks}
use Rattle.semantic_kinds.specs.declared.role.Role.{Role}
use Rattle.semantic_kinds.specs.declared.role.Role.TheVariants as role
use Rattle.semantic_syntax.specs.Tables.{Name, Symbol}
use Rattle.semantic_tree.specs.Faults.{first_fault}
use Rattle.semantic_tree.specs.Forest.{Forest, nothing, tree}
use Rattle.semantic_tree.specs.Renamed.{swap, is_program_name, setting_below, renamed_text, renamed as renamed_forest, renamed_tree, swapped_tree}
use Rattle.semantic_tree.specs.Tree.{Tree, IsNumbered}
use Rattle.semantic_tree.specs.declared.node.Node.{Node}
use Rattle.semantic_tree.specs.declared.swap.Setting.{Setting}
use Rattle.semantic_tree.specs.declared.swap.Setting.TheVariants.{Elsewhere}
use Rattle.semantic_model.specs.Analysis.{analysis_of}
use Rattle.semantic_model.specs.Event.{events}
use Rattle.semantic_model.specs.Exported.{exported_names}
use Rattle.semantic_model.specs.Fold.{State, start}
use Rattle.semantic_model.specs.Hoist.{run}
use Rattle.semantic_model.specs.Step.{steps}
use Rattle.semantic_model.specs.TablesOf.{tables_of}
use Rattle.semantic_model.proofs.form.Shape.{has_form}
use Rattle.semantic_model.proofs.once.ListedUnder.{name_tells}
use Rattle.semantic_model.proofs.swapped.AlikeEvents.{events_renamed}
use Rattle.semantic_model.proofs.swapped.AlikeFold.{run_same}
use Rattle.semantic_model.proofs.swapped.AlikeProgram.{Keeps, swap_keeps}
use Rattle.program_laws.specs.ReadMarks.{without_where, unmarked_tree}
use Rattle.program_laws.specs.Remarked.{remarked}
use Rattle.program_laws.specs.SameAnalysis.{conflicts_of, HaveSameAnalysis}
use Rattle.program_laws.proofs.TableMarks.{same_unmarked}
use Rattle.rename_model.specs.Alone.{BelongsTo, IsUnused}
use Rattle.rename_model.specs.Refusal.{first_fixed, rename}
use Rattle.rename_model.specs.Renamed.{bears_name, program_renamed}
use Rattle.rename_model.specs.WithName.{sheds, with_name_alone, with_name}
use Rattle.rename_model.proofs.AloneNames.{stands_alone}
use Rattle.rename_model.proofs.Completeness.{good}
use Rattle.rename_model.proofs.Refusals.{ends_renamed, none_means_free}
use Rattle.rename_model.proofs.Swaps.{Bears, AloneIn}
use Rattle.renaming_laws.specs.KeptConflicts.{with_other_name}
use Rattle.renaming_laws.proofs.GoingBack.{root_marks}
use Rattle.renaming_laws.proofs.KeptConflicts.{shed_first}

-- ---- the tree

text_swapped : (chosen : ℕ → Bool) (a b : Name) (setting : Setting) (r : Role) (k : AstType) (text : Name) (id : ℕ) → Bears chosen a b setting r k text id → cond (chosen id) b text ≡ renamed_text (swap a b) setting r k text
text_swapped chosen a b setting r k text id w = go (chosen id) (is_program_name setting r k) (bytes_eq text a) (bytes_eq text b) w.named w.has_old w.only w.not_new
  where
    differ : false ≡ true → ⊥
    differ f = absurd cc

    go : (c n x y : Bool) → (c ≡ true → n ≡ true) → (c ≡ true → x ≡ true) → (n ≡ true → x ≡ true → c ≡ true) → (n ≡ true → y ≡ false) → cond c b text ≡ (if n then (if x then b else (if y then a else text)) else text)
    go true true true y h i j l = refl
    go true true false y h i j l = absurd (differ (i refl))
    go true false x y h i j l = absurd (differ (h refl))
    go false true true y h i j l = absurd (differ (j refl refl))
    go false true false true h i j l = absurd (differ (sym (l refl)))
    go false true false false h i j l = refl
    go false false x y h i j l = refl

alone_swapped : (chosen : ℕ → Bool) (a b : Name) (g : Node → Marks) (setting : Setting) (f : Forest) → AloneIn chosen a b setting f → with_name_alone chosen b (remarked g f) ≡ renamed_forest (swap a b) setting (remarked g f)
alone_swapped chosen a b g setting nothing w = refl
alone_swapped chosen a b g setting (tree r k span text marks below id after) w =
    let node : Node = record { kind = k; span = span; text = text; marks = marks; children = below; node_id = id } in
    λ i. tree r k span (text_swapped chosen a b setting r k text id w.0 i) (g node) (alone_swapped chosen a b g (setting_below setting r k) below w.1 i) id (alone_swapped chosen a b g setting after w.2 i)

other_way : (t u : Name) → bytes_eq t u ≡ false → bytes_eq u t ≡ false
other_way t u h = elim (name_tells u t) [ inr k ↦ k.0 | inl k ↦ elim (name_tells t u) [ inr q ↦ absurd (q.1 (sym k.1)) | inl q ↦ (let w : true ≡ false = sym q.0 ∙ h in absurd cc) ] ]

-- ---- conflicts

conflicts_swapped : (f : Name → Name) → Keeps f → (p : Tree) → conflicts_of (renamed_tree f p) ≡ map (with_other_name f) (conflicts_of p)
conflicts_swapped f keeps p =
    ap (λ es. (run start es).conflicts) (events_renamed f keeps p) ∙ ap (λ (st : State). st.conflicts) (run_same f keeps start (events (steps p)))

module _ (p : Tree) (faultless : first_fault p ≡ None) (numbered : IsNumbered p.root) (s : ℕ) (y : Symbol) (there : slice_get (tables_of p).symbols s ≡ Some y) (new : Name) where
  abbrev chosen : ℕ → Bool
  chosen = bears_name (analysis_of p) s

  abbrev q : Tree
  q = program_renamed p (analysis_of p) s new

  abbrev unmarked : Tree
  unmarked = unmarked_tree (sheds chosen) mark.Shorthand p

  is_program : kind.Program ≡ p.root.kind
  is_program = sym (has_form p faultless).root

  module _ (free : first_fixed (exported_names (steps p)) (bears_name (analysis_of p) s) (steps p) ≡ None) (alone : BelongsTo p s y.name) (unused : IsUnused p new) where
    pub is_swapped : q ≡ swapped_tree y.name new unmarked
    is_swapped =
        let shed : Node → Marks = without_where (sheds chosen) mark.Shorthand in
        let stands : AloneIn chosen y.name new Elsewhere p.root.children = stands_alone p faultless numbered s y there free new alone unused in
        let setting : Elsewhere ≡ setting_below Elsewhere role.Root p.root.kind = subst (λ k. Elsewhere ≡ setting_below Elsewhere role.Root k) is_program refl in
        let text : renamed_text (swap y.name new) Elsewhere role.Root p.root.kind p.root.text ≡ p.root.text = subst (λ k. renamed_text (swap y.name new) Elsewhere role.Root k p.root.text ≡ p.root.text) is_program refl in
        let below : with_name chosen new p.root.children ≡ renamed_forest (swap y.name new) (setting_below Elsewhere role.Root p.root.kind) (remarked shed p.root.children) =
        shed_first chosen new p.root.children ∙ alone_swapped chosen y.name new shed Elsewhere p.root.children stands ∙ ap (λ t. renamed_forest (swap y.name new) t (remarked shed p.root.children)) setting in
        λ i. record p { root = record p.root { text = sym text i; marks = sym (root_marks chosen p.root is_program) i; children = below i } }

  pub alone_kept : (r : Tree) → bytes_eq y.name (codes "arguments") ≡ false → bytes_eq y.name (codes "eval") ≡ false → BelongsTo p s y.name → IsUnused p new → rename p s new ≡ Ok r → conflicts_of r ≡ map (with_other_name (swap y.name new)) (conflicts_of p)
  alone_kept r arguments eval alone unused e =
      let (bad, none, same, is) = ends_renamed p s new r e in
      let free : first_fixed (exported_names (steps p)) (bears_name (analysis_of p) s) (steps p) ≡ None = none_means_free p s none in
      let g : (bytes_eq new [] ≡ false) × (bytes_eq new (codes "arguments") ≡ false) × (bytes_eq new (codes "eval") ≡ false) = good new bad in
      let keeps : Keeps (swap y.name new) = swap_keeps y.name new (other_way y.name (codes "eval") eval) (other_way new (codes "eval") g.2) (other_way y.name (codes "arguments") arguments) (other_way new (codes "arguments") g.1) in
      let marks : HaveSameAnalysis unmarked p = same_unmarked (sheds chosen) mark.Shorthand p refl in
      ap conflicts_of (is ∙ is_swapped free alone unused) ∙ conflicts_swapped (swap y.name new) keeps unmarked ∙ ap (map (with_other_name (swap y.name new))) marks.conflicts
