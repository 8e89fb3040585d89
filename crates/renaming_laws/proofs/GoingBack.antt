-- Where a symbol gets its old name back, the program comes back, but for marks.
use Rattle.std.proofs.Common.{◌≡◌, ◌<◌, ℕ, ◌-◌, Bool, true, false, ◌||◌, cond, Some, None, Ok, inl, inr, refl, sym, ap, subst, ◌∙◌, arith, bit_and}
use Rattle.std.specs.Prelude.{slice_get}
use Rattle.std.proofs.lemmas.Nat.Bits.{bit_at_and, same_from_bits}
use Rattle.semantic_kinds.specs.Marks.{mark_bit}
use Rattle.semantic_kinds.specs.declared.kind.AstType.{AstType}
use Rattle.semantic_kinds.specs.declared.kind.AstType.TheVariants as kind
use Rattle.semantic_kinds.specs.declared.mark.Mark.{Mark}
use Rattle.semantic_kinds.specs.declared.mark.Mark.TheVariants as mark
use Rattle.semantic_kinds.specs.declared.marks.Marks.{Marks}
use Rattle.semantic_syntax.specs.Tables.{Name, Symbol}
use Rattle.semantic_tree.specs.Children.{node_count}
use Rattle.semantic_tree.specs.Faults.{first_fault}
use Rattle.semantic_tree.specs.Forest.{Forest, nothing, tree}
use Rattle.semantic_tree.specs.Place.{child_place, placed_below, root_place, all_placed}
use Rattle.semantic_tree.specs.Tree.{Tree, IsNumbered}
use Rattle.semantic_tree.specs.declared.node.Node.{Node}
use Rattle.semantic_tree.specs.declared.place.Place.{Place}
use Rattle.semantic_model.specs.Analysis.{analysis_of}
use Rattle.semantic_model.specs.Entries.{Among}
use Rattle.semantic_model.specs.Exported.{exported_names}
use Rattle.semantic_model.specs.Step.{steps}
use Rattle.semantic_model.specs.TablesOf.{is_symbol, tables_of}
use Rattle.semantic_model.proofs.form.Shape.{has_form}
use Rattle.semantic_model.proofs.lists.Members.{among_left, among_right}
use Rattle.program_laws.specs.ReadMarks.{without_mark, without_where}
use Rattle.program_laws.specs.Remarked.{remarked}
use Rattle.program_laws.proofs.TreeNodes.{nodes_below, ids_between}
use Rattle.rename_model.specs.Refusal.{first_fixed, rename}
use Rattle.rename_model.specs.Renamed.{bears_name, program_renamed}
use Rattle.rename_model.specs.Same.{Same}
use Rattle.rename_model.specs.WithName.{sheds, with_name}
use Rattle.rename_model.proofs.AloneNames.{is_of_symbol}
use Rattle.rename_model.proofs.Refusals.{ends_renamed, none_means_free}
use Rattle.renaming_laws.specs.WrittenOut.{written_out}
use Rattle.renaming_laws.proofs.Sheds.{AgreeIn, bare_named, sheds_same}

-- a mark that was taken can't be taken again
taken_once : (b : ℕ) (k : ℕ) → bit_and (bit_and b k) k ≡ bit_and b k
taken_once b k = same_from_bits (bit_and (bit_and b k) k) (bit_and b k) (λ i. omega (arith, bit_at_and (bit_and b k) k i, bit_at_and b k i))

unmarked_once : (marks : Marks) (m : Mark) (b : Bool) → cond b (without_mark (cond b (without_mark marks m) marks) m) (cond b (without_mark marks m) marks) ≡ cond b (without_mark marks m) marks
unmarked_once marks m true = λ i. record { bits = taken_once marks.bits (4294967295 - mark_bit m) i }
unmarked_once marks m false = refl

-- the root is no property
pub root_marks : (chosen : ℕ → Bool) (x : Node) → kind.Program ≡ x.kind → without_where (sheds chosen) mark.Shorthand x ≡ x.marks
root_marks chosen x e = ap (without_where (sheds chosen) mark.Shorthand) (λ i. record x { kind = sym e i })

module _ (a b : ℕ → Bool) where
  -- tests that agree at each node of a forest
  pub agree_below : (f : Forest) → ((x : Node) → Among x (nodes_below f) → a x.node_id ≡ b x.node_id) → AgreeIn a b f
  agree_below nothing h = tt
  agree_below (tree r k span text marks below id after) h = (
    h (record { kind = k; span = span; text = text; marks = marks; children = below; node_id = id }) (inl refl),
    agree_below below (λ x c. h x (inr (among_left x (nodes_below below) (nodes_below after) c))),
    agree_below after (λ x c. h x (inr (among_right x (nodes_below below) (nodes_below after) c))),
  )

  agree_named : (chosen : ℕ → Bool) (name : Name) (f : Forest) → AgreeIn a b f → AgreeIn a b (with_name chosen name f)
  agree_named chosen name nothing h = tt
  agree_named chosen name (tree r k span text marks below id after) h = (h.0, agree_named chosen name below h.1, agree_named chosen name after h.2)

-- the chosen nodes of a forest have the text
abbrev pub HaveText : (ℕ → Bool) → Name → Forest → Type 0
HaveText chosen old nothing = Unit {0}
HaveText chosen old (tree r k span text marks below id after) = (chosen id ≡ true → text ≡ old) × HaveText chosen old below × HaveText chosen old after

module _ (again chosen : ℕ → Bool) (old new : Name) where
  text_back : (id : ℕ) (text : Name) → again id ≡ chosen id → (chosen id ≡ true → text ≡ old) → cond (again id) old (cond (chosen id) new text) ≡ text
  text_back id text e h = ap (λ t. cond t old (cond (chosen id) new text)) e ∙ go (chosen id) h
    where
      go : (t : Bool) → (t ≡ true → text ≡ old) → cond t old (cond t new text) ≡ text
      go true k = sym (k refl)
      go false k = refl

  -- a forest that has the old name again
  pub comes_back : (f : Forest) → AgreeIn again chosen f → HaveText chosen old f → with_name again old (with_name chosen new f) ≡ remarked (without_where (sheds chosen) mark.Shorthand) f
  comes_back nothing h t = refl
  comes_back (tree r k span text marks below id after) h t =
      let x : Node = record { kind = k; span = span; text = text; marks = marks; children = below; node_id = id } in
      let y : Node = record { kind = k; span = span; text = cond (chosen id) new text; marks = without_where (sheds chosen) mark.Shorthand x; children = with_name chosen new below; node_id = id } in
      let same : sheds again y ≡ sheds chosen x = sheds_same again chosen y x refl (bare_named chosen new below) (agree_named again chosen chosen new below h.1) in
      λ i. tree r k span (text_back id text h.0 t.0 i)
      ((ap (λ c. cond c (without_mark y.marks mark.Shorthand) y.marks) same ∙ unmarked_once marks mark.Shorthand (sheds chosen x)) i)
      (comes_back below h.1 t.1 i) id (comes_back after h.2 t.2 i)

module _ (p : Tree) (faultless : first_fault p ≡ None) (numbered : IsNumbered p.root) (s : ℕ) (y : Symbol) (there : slice_get (tables_of p).symbols s ≡ Some y) (new : Name) where
  abbrev chosen : ℕ → Bool
  chosen = bears_name (analysis_of p) s

  abbrev q : Tree
  q = program_renamed p (analysis_of p) s new

  abbrev again : ℕ → Bool
  again = bears_name (analysis_of q) s

  is_program : kind.Program ≡ p.root.kind
  is_program = sym (has_form p faultless).root

  module _ (free : first_fixed (exported_names (steps p)) (bears_name (analysis_of p) s) (steps p) ≡ None) (same : Same p q) where
    pub same_bearers : (id : ℕ) → id < node_count p.root → again id ≡ chosen id
    same_bearers id h = λ i. is_symbol s (sym (same id h).symbol i) || is_symbol s (sym (same id h).tied i)

    agree : AgreeIn again chosen p.root.children
    agree = agree_below again chosen p.root.children (λ x a. let (low, high) = ids_between 1 p.root.children x (ap (λ n. n.children) numbered) a in same_bearers x.node_id (omega (arith, high)))

    abbrev Inside : Place → AstType → Forest → Type 0
    Inside place k f = (here : Place) (x : Node) → Among (here, x) (placed_below place k f) → Among (here, x) (all_placed p.root)

    pub have_text : (place : Place) (k : AstType) (f : Forest) → Inside place k f → HaveText chosen y.name f
    have_text place k nothing h = tt
    have_text place k (tree r k2 span text marks below id after) h =
        let x : Node = record { kind = k2; span = span; text = text; marks = marks; children = below; node_id = id } in
        let at : Place = child_place place k r in (
          λ c. (is_of_symbol p faultless numbered s y there free at x (h at x (inl refl)) c).1,
          have_text at k2 below (λ here z a. h here z (inr (among_left (here, z) (placed_below at k2 below) (placed_below place k after) a))),
          have_text place k after (λ here z a. h here z (inr (among_right (here, z) (placed_below at k2 below) (placed_below place k after) a))),
        )

    back : program_renamed q (analysis_of q) s y.name ≡ written_out p s
    back = λ i. record p {
      root = record p.root {
        marks = sym (root_marks chosen p.root is_program) i;
        children = comes_back again chosen y.name new p.root.children agree (have_text root_place p.root.kind p.root.children (λ here x a. inr a)) i;
      };
    }

  pub renamed_back : (r : Tree) → rename p s new ≡ Ok r → program_renamed r (analysis_of r) s y.name ≡ written_out p s
  renamed_back r e =
      let (bad, none, same, is) = ends_renamed p s new r e in
      let same' : Same p q = subst (Same p) is same in
      ap (λ t. program_renamed t (analysis_of t) s y.name) is ∙ back (none_means_free p s none) same'
