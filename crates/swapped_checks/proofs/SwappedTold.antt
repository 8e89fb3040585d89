-- The diagnostics of a program in which two names are swapped, and in which properties in short may be written out.
use Rattle.std.proofs.Common.{◌≡◌, ℕ, ◌-◌, ◌≤◌, ◌==◌, List, [], ◌∷◌, None, cond, if◌then◌else◌, Bool, true, false, ◌&&◌, ◌||◌, not, refl, sym, ap, subst, ◌∙◌, bytes_eq, codes, arith}
use Rattle.std.specs.Prelude.{bit_and}
use Rattle.std.proofs.lemmas.Nat.{and_assoc, and_le_r}
use Rattle.semantic_syntax.proofs.Truth.{and_first, and_second}
use Rattle.semantic_syntax.specs.Tables.{Name}
use Rattle.semantic_kinds.specs.MarkSets.{has_mark}
use Rattle.semantic_kinds.specs.Marks.{same_mark, mark_bit}
use Rattle.semantic_kinds.specs.declared.kind.AstType.{AstType}
use Rattle.semantic_kinds.specs.declared.kind.AstType.TheVariants as kind
use Rattle.semantic_kinds.specs.declared.mark.Mark.{Mark}
use Rattle.semantic_kinds.specs.declared.mark.Mark.TheVariants as mark
use Rattle.semantic_kinds.specs.declared.marks.Marks.{Marks}
use Rattle.semantic_kinds.specs.declared.role.Role.{Role}
use Rattle.semantic_kinds.specs.declared.role.Role.TheVariants as role
use Rattle.semantic_tree.specs.Faults.{first_fault}
use Rattle.semantic_tree.specs.Forest.{Forest, nothing, tree}
use Rattle.semantic_tree.specs.Renamed.{swap, is_program_name, setting_below, renamed_text, renamed, renamed_node, renamed_tree, swapped_tree}
use Rattle.semantic_tree.specs.Tree.{Tree}
use Rattle.semantic_tree.specs.Views.{is, has, whose}
use Rattle.semantic_tree.specs.declared.node.Node.{Node}
use Rattle.semantic_tree.specs.declared.swap.Setting.{Setting}
use Rattle.semantic_tree.specs.declared.swap.Setting.TheVariants.{Elsewhere}
use Rattle.semantic_model.proofs.swapped.AlikeProgram.{Keeps, swap_keeps}
use Rattle.semantic_diagnostics.specs.declared.diagnostic.Diagnostic.{Diagnostic}
use Rattle.check_model.specs.DiagnosticsOf.{diagnostics_of}
use Rattle.check_model.specs.Expressions.{is_proto}
use Rattle.program_laws.specs.ReadMarks.{without_mark, without_where, unmarked_tree}
use Rattle.check_model.specs.Rows.{rows_of}
use Rattle.check_model.specs.Sight.{Sight}
use Rattle.program_laws.specs.Remarked.{remarked, remarked_node, remarked_tree}
use Rattle.swapped_checks.specs.SwappedPrograms.{holds_below, holds_within, is_other_string, is_short_prototype, keeps_prototype}
use Rattle.swapped_checks.specs.RuleWords.{rule_words, is_rule_word, KeepsRuleWords}
use Rattle.swapped_checks.specs.SwappedSight.{HasPlainParts, IsRenamed, renamed_at, AreRenamed, IsRenamedSight, is_signature_list, KeepsParameters, has_plain_labels}
use Rattle.swapped_checks.specs.SwappedRows.{AreToldAgain, IsToldAgain, told_the_same, redeclared_by_name, exported_by_name}
use Rattle.swapped_checks.proofs.Changed.{Change, IsChanged, changed_at, IsChangedSight}
use Rattle.swapped_checks.proofs.Pairwise.{Each}
use Rattle.swapped_checks.proofs.PlainForm.{has_own_pieces, is_formed, formed_within, formed_and}
use Rattle.swapped_checks.proofs.SeenPlaces.{Tells}
use Rattle.swapped_checks.proofs.Told.{apart, swap_words, sights_told}
use Rattle.swapped_checks.proofs.ToldPrograms.{program_told}

-- ---- two names swapped

-- a string that is neither name stays
swap_tells : (a b : Name) → Tells (swap a b) (λ n. is_formed n && is_other_string a b n)
swap_tells a b = record {
  labels = λ n h. and_first (has_plain_labels n) (has_own_pieces n) (and_first (is_formed n) (is_other_string a b n) h);
  pieces = λ n h. and_second (has_plain_labels n) (has_own_pieces n) (and_first (is_formed n) (is_other_string a b n) h);
  strings = λ n h k. string n.text (is kind.StringLiteral n) k (bytes_eq n.text a) (bytes_eq n.text b) (and_second (is_formed n) (is_other_string a b n) h);
}
  where
    string : (u : Name) (c : Bool) → c ≡ true → (x y : Bool) → not (c && (x || y)) ≡ true → (if x then b else (if y then a else u)) ≡ u
    string u true k false false h = refl
    string u true k true y h = absurd cc
    string u true k false true h = absurd cc
    string u false k x y h = absurd cc

-- ---- without marks

-- those that pass the test are written out, but for `__proto__` in short
abbrev pub writes_out : (Node → Bool) → Node → Bool
writes_out test node = test node && not (is_short_prototype node)

abbrev pub written_marks : (Node → Bool) → Node → Marks
written_marks test = without_where (writes_out test) mark.Shorthand

-- the bit of `shorthand` is no other mark's
other_bit : (m : Mark) → same_mark m mark.Shorthand ≡ false → bit_and (4294967295 - mark_bit mark.Shorthand) (mark_bit m) ≡ mark_bit m
other_bit mark.Shorthand h = absurd cc
other_bit _ h = refl

other_kept : (m : Mark) → same_mark m mark.Shorthand ≡ false → (marks : Marks) → has_mark (without_mark marks mark.Shorthand) m ≡ has_mark marks m
other_kept m h marks = ap (λ b. not (b == 0)) (and_assoc (mark_bit m) marks.bits (4294967295 - mark_bit mark.Shorthand) ∙ ap (bit_and marks.bits) (other_bit m h))

bit_gone : (a : ℕ) → bit_and (bit_and a (4294967295 - mark_bit mark.Shorthand)) (mark_bit mark.Shorthand) ≡ 0
bit_gone a = let h : bit_and a 0 ≤ 0 = and_le_r a 0 in and_assoc (mark_bit mark.Shorthand) a (4294967295 - mark_bit mark.Shorthand) ∙ omega (arith, h)

mark_gone : (marks : Marks) → has_mark (without_mark marks mark.Shorthand) mark.Shorthand ≡ false
mark_gone marks = ap (λ b. not (b == 0)) (bit_gone marks.bits)

pub written_kept : (test : Node → Bool) (node : Node) (m : Mark) → same_mark m mark.Shorthand ≡ false → has_mark (written_marks test node) m ≡ has_mark node.marks m
written_kept test node m h = go (writes_out test node)
  where
    go : (b : Bool) → has_mark (cond b (without_mark node.marks mark.Shorthand) node.marks) m ≡ has_mark node.marks m
    go true = other_kept m h node.marks
    go false = refl

-- a property with such a key is in short or not as it was
pub short_kept : (test : Node → Bool) (node : Node) → (is kind.ObjectProperty node && whose role.Key is_proto node) ≡ true → has_mark (written_marks test node) mark.Shorthand ≡ has_mark node.marks mark.Shorthand
short_kept test node h =
    go (is kind.ObjectProperty node) (has mark.Shorthand node) (whose role.Key is_proto node) (test node) refl
    (and_first (is kind.ObjectProperty node) (whose role.Key is_proto node) h) (and_second (is kind.ObjectProperty node) (whose role.Key is_proto node) h)
  where
    go : (a b c d : Bool) → has mark.Shorthand node ≡ b → a ≡ true → c ≡ true → has_mark (cond (d && not (a && (b && c))) (without_mark node.marks mark.Shorthand) node.marks) mark.Shorthand ≡ has_mark node.marks mark.Shorthand
    go true true true true e i k = refl
    go true true true false e i k = refl
    go true false true true e i k = mark_gone node.marks ∙ sym e
    go true false true false e i k = refl
    go false b c d e i k = absurd cc
    go true b false d e i k = absurd cc

-- other names, and properties that pass the test written out
abbrev pub change_by : (Name → Name) → (Node → Bool) → Change
change_by f test = record { names = f; marks = written_marks test; kept = written_kept test; prototypes = short_kept test }

-- ---- the marks of a program

-- where no `__proto__` in short passes the test, all that pass it are written out
same_marks : (test : Node → Bool) (node : Node) → keeps_prototype test node ≡ true → written_marks test node ≡ without_where test mark.Shorthand node
same_marks test node h = ap (λ b. cond b (without_mark node.marks mark.Shorthand) node.marks) (go (test node) (is_short_prototype node) h)
  where
    go : (a b : Bool) → not (a && b) ≡ true → (a && not b) ≡ a
    go true true i = absurd cc
    go true false i = refl
    go false b i = refl

same_below : (test : Node → Bool) (g : Forest) → holds_below (keeps_prototype test) g ≡ true → remarked (written_marks test) g ≡ remarked (without_where test mark.Shorthand) g
same_below test nothing h = refl
same_below test (tree r k span text marks below id after) h =
    let node : Node = record { kind = k; span = span; text = text; marks = marks; children = below; node_id = id } in
    let rest : (holds_below (keeps_prototype test) below && holds_below (keeps_prototype test) after) ≡ true = and_second (keeps_prototype test node) (holds_below (keeps_prototype test) below && holds_below (keeps_prototype test) after) h in
    let here : written_marks test node ≡ without_where test mark.Shorthand node = same_marks test node (and_first (keeps_prototype test node) (holds_below (keeps_prototype test) below && holds_below (keeps_prototype test) after) h) in
    λ i. tree r k span text (here i) (same_below test below (and_first (holds_below (keeps_prototype test) below) (holds_below (keeps_prototype test) after) rest) i) id (same_below test after (and_second (holds_below (keeps_prototype test) below) (holds_below (keeps_prototype test) after) rest) i)

same_tree : (test : Node → Bool) (p : Tree) → holds_within (keeps_prototype test) p.root ≡ true → remarked_tree (written_marks test) p ≡ unmarked_tree test mark.Shorthand p
same_tree test p h = λ i. record p {
  root = record p.root {
    marks = same_marks test p.root (and_first (keeps_prototype test p.root) (holds_below (keeps_prototype test) p.root.children) h) i;
    children = same_below test p.root.children (and_second (keeps_prototype test p.root) (holds_below (keeps_prototype test) p.root.children) h) i;
  };
}

-- no node is written out by a test that none passes
abbrev pub none : Node → Bool
none n = false

none_below : (g : Forest) → remarked (written_marks none) g ≡ g
none_below nothing = refl
none_below (tree r k span text marks below id after) = λ i. tree r k span text marks (none_below below i) id (none_below after i)

pub none_written : (p : Tree) → remarked_tree (written_marks none) p ≡ p
none_written p = λ i. record p { root = record p.root { children = none_below p.root.children i } }

-- ---- laws

apart_keeps : (a b : Name) → is_rule_word a ≡ false → is_rule_word b ≡ false → Keeps (swap a b)
apart_keeps a b h i = swap_keeps a b (apart rule_words a (codes "eval") refl h) (apart rule_words b (codes "eval") refl i) (apart rule_words a (codes "arguments") refl h) (apart rule_words b (codes "arguments") refl i)

changed_told : (a b : Name) (test : Node → Bool) → is_rule_word a ≡ false → is_rule_word b ≡ false → (checks : Bool) (p : Tree) → first_fault p ≡ None → holds_within (is_other_string a b) p.root ≡ true
    → AreToldAgain (swap a b) (diagnostics_of checks p) (diagnostics_of checks (swapped_tree a b (remarked_tree (written_marks test) p)))
changed_told a b test h i checks p faultless strings =
    program_told (change_by (swap a b) test) (swap_words a b h i) (apart_keeps a b h i)
    (λ n. is_formed n && is_other_string a b n) (swap_tells a b) checks p (formed_and p (is_other_string a b) faultless strings)

pub swapped_told : (a b : Name) → is_rule_word a ≡ false → is_rule_word b ≡ false → (checks : Bool) (p : Tree) → first_fault p ≡ None → holds_within (is_other_string a b) p.root ≡ true → AreToldAgain (swap a b) (diagnostics_of checks p) (diagnostics_of checks (swapped_tree a b p))
swapped_told a b h i checks p faultless strings =
    subst (λ q. AreToldAgain (swap a b) (diagnostics_of checks p) (diagnostics_of checks (swapped_tree a b q))) (none_written p) (changed_told a b none h i checks p faultless strings)

pub written_told : (a b : Name) (test : Node → Bool) → is_rule_word a ≡ false → is_rule_word b ≡ false → (checks : Bool) (p : Tree) → first_fault p ≡ None → holds_within (is_other_string a b) p.root ≡ true → holds_within (keeps_prototype test) p.root ≡ true
    → AreToldAgain (swap a b) (diagnostics_of checks p) (diagnostics_of checks (swapped_tree a b (unmarked_tree test mark.Shorthand p)))
written_told a b test h i checks p faultless strings keeps =
    subst (λ q. AreToldAgain (swap a b) (diagnostics_of checks p) (diagnostics_of checks (swapped_tree a b q))) (same_tree test p keeps) (changed_told a b test h i checks p faultless strings)

-- ---- sights with other names and the same marks

module _ (f : Name → Name) where
  abbrev named : Change
  named = change_by f none

  named_node : (a b : Node) → IsRenamed f a b → IsChanged named a b
  named_node _ _ (renamed_at st r node) = subst (λ n. IsChanged named node (renamed_node f st r n)) same (changed_at st r node)
    where
      same : remarked_node (written_marks none) node ≡ node
      same = λ i. record node { children = none_below node.children i }

  named_each : (xs ys : List Node) → AreRenamed f xs ys → Each (IsChanged named) xs ys
  named_each [] [] h = tt
  named_each [] (y ∷ ys) h = absurd h
  named_each (x ∷ xs) [] h = absurd h
  named_each (x ∷ xs) (y ∷ ys) h = (named_node x y h.0, named_each xs ys h.1)

  named_sight : (s t : Sight) → IsRenamedSight f s t → IsChangedSight named s t
  named_sight s t w = record { node = named_node s.node t.node w.node; path = named_each s.path t.path w.path; symbols = w.symbols; others = w.others; strings = w.strings }

pub renamed_rows : (f : Name → Name) (s t : Sight) → KeepsRuleWords f → HasPlainParts s → IsRenamedSight f s t → (is_signature_list s.node ≡ true → KeepsParameters f s.node) → AreToldAgain f (rows_of s) (rows_of t)
renamed_rows f s t words parts w names = sights_told (named f) words s t parts (named_sight f s t w) names

pub swapped_rows : (a b : Name) (s t : Sight) → is_rule_word a ≡ false → is_rule_word b ≡ false → HasPlainParts s → IsRenamedSight (swap a b) s t → AreToldAgain (swap a b) (rows_of s) (rows_of t)
swapped_rows a b s t h i parts w = renamed_rows (swap a b) s t (swap_words a b h i) parts w (λ e x y c d. (apart_keeps a b h i).equal x y)

-- ---- the same names

abbrev same_name : Name → Name
same_name x = x

same_words : KeepsRuleWords same_name
same_words = record { same = λ x w h. refl }

same_keeps : Keeps same_name
same_keeps = record { equal = λ x y. refl; eval = refl; arguments = refl }

same_tells : Tells same_name is_formed
same_tells = record {
  labels = λ n h. and_first (has_plain_labels n) (has_own_pieces n) h;
  pieces = λ n h. and_second (has_plain_labels n) (has_own_pieces n) h;
  strings = λ n h k. refl;
}

same_text : (st : Setting) (r : Role) (k : AstType) (u : Name) → renamed_text same_name st r k u ≡ u
same_text st r k u = go (is_program_name st r k)
  where
    go : (c : Bool) → (if c then u else u) ≡ u
    go true = refl
    go false = refl

names_below : (st : Setting) (g : Forest) → renamed same_name st g ≡ g
names_below st nothing = refl
names_below st (tree r k span text marks below id after) = λ i. tree r k span (same_text st r k text i) marks (names_below (setting_below st r k) below i) id (names_below st after i)

names_in : (p : Tree) → renamed_tree same_name p ≡ p
names_in p = λ i. record p {
  root = record p.root { text = same_text Elsewhere role.Root p.root.kind p.root.text i; children = names_below (setting_below Elsewhere role.Root p.root.kind) p.root.children i };
}

-- what is told again of the same names is the same
same_row : (x y : Diagnostic) → IsToldAgain same_name x y → y ≡ x
same_row _ _ (told_the_same row) = refl
same_row _ _ (redeclared_by_name name first second) = refl
same_row _ _ (exported_by_name name span) = refl

same_rows : (xs ys : List Diagnostic) → AreToldAgain same_name xs ys → ys ≡ xs
same_rows [] [] h = refl
same_rows [] (y ∷ ys) h = absurd h
same_rows (x ∷ xs) [] h = absurd h
same_rows (x ∷ xs) (y ∷ ys) h = λ i. same_row x y h.0 i ∷ same_rows xs ys h.1 i

pub written_same : (test : Node → Bool) (checks : Bool) (p : Tree) → first_fault p ≡ None → holds_within (keeps_prototype test) p.root ≡ true → diagnostics_of checks (unmarked_tree test mark.Shorthand p) ≡ diagnostics_of checks p
written_same test checks p faultless keeps =
    let told : AreToldAgain same_name (diagnostics_of checks p) (diagnostics_of checks (renamed_tree same_name (remarked_tree (written_marks test) p))) = program_told (change_by same_name test) same_words same_keeps is_formed same_tells checks p (formed_within p faultless) in
    ap (diagnostics_of checks) (sym (names_in (unmarked_tree test mark.Shorthand p)) ∙ ap (renamed_tree same_name) (sym (same_tree test p keeps)))
    ∙ same_rows (diagnostics_of checks p) (diagnostics_of checks (renamed_tree same_name (remarked_tree (written_marks test) p))) told
