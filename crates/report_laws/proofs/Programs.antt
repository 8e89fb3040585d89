-- The reports of programs.
use Rattle.std.proofs.Common.{◌≡◌, ℕ, ◌≤◌, Bool, true, false, if◌then◌else◌, List, [], None, length, refl, sym, ap, ◌∙◌, subst, arith}
use Rattle.std.specs.List.{AllByRecursion}
use Rattle.std.proofs.lemmas.List.{length-map}
use Rattle.semantic_tree.specs.Children.{node_count}
use Rattle.semantic_tree.specs.Faults.{first_fault}
use Rattle.semantic_tree.specs.Forest.{count}
use Rattle.semantic_tree.specs.Tree.{Tree, IsNumbered}
use Rattle.semantic_tree.specs.Shaped.{IsShaped}
use Rattle.semantic_tree.proofs.ShapedLaws.{no_fault-IsShaped, IsShaped-no_fault}
use Rattle.semantic_model.specs.Class.{Class, classes}
use Rattle.semantic_model.specs.Cursor.{on_entering}
use Rattle.semantic_model.specs.NodeTable.{NodeEntry, nodes as entered_nodes}
use Rattle.semantic_model.specs.Place.{Place}
use Rattle.semantic_model.specs.Step.{Step, root_place, steps_below, steps}
use Rattle.node_store.specs.NodeList.{SeenNode}
use Rattle.class_table.specs.Told.{lists_told}
use Rattle.promise.specs.Kept.{seen_of, kept_nodes, classes_noted}
use Rattle.semantic_walk.proofs.Listing.{nodes_within, count_nodes}
use Rattle.report_answers.specs.Found.{Found}
use Rattle.report_answers.specs.Report.{options_of, report_text, text_by}
use Rattle.report_answers.specs.declared.options.Options.{Options}
use Rattle.report_answers.specs.declared.request.Request.{Request}
use Rattle.program_ends.specs.Meaning.{End}
use Rattle.program_ends.specs.Reads.{Stands}
use Rattle.report.specs.Built.{found_of}
use Rattle.report.specs.Meaning.{Answers}
use Rattle.table_bounds.specs.Tellable.{IsWrittenWhole, AreNumbers, AreTellable, AreTellableClasses, IsTellableNode, IsTellableDiagnostic}
use Rattle.table_bounds.proofs.Tables.{labels_tellable, tables_tellable}
use Rattle.report_bounds.proofs.ClassElements.{classes_bounded}
use Rattle.report_bounds.proofs.Told.{diagnostics_tellable, nodes_tellable}
use Rattle.report_laws.specs.Found.{IsFoundIn, TellTheSame}
use Rattle.report_laws.proofs.Lists.{all_map}
use Rattle.report_laws.proofs.NodeForms.{AreTellableNodes}
use Rattle.report_laws.proofs.ReportForms.{IsTellable}
use Rattle.report_laws.proofs.ReportTold.{ToldBefore, report_tells, diagnostics_told}

-- ---- nodes

-- a program has as many entries as nodes
as_many : (p : Tree) → length (entered_nodes (steps p)) ≡ node_count p.root
as_many p =
    let root : Place = root_place p in
    let below : List Step = steps_below root None 0 (on_entering p.root.kind 0) p.root.children in
    let counted : length (entered_nodes below) ≡ count p.root.children = count_nodes root None 0 (on_entering p.root.kind 0) p.root.children in
    ap length (nodes_within root root below) ∙ omega (arith, counted)

nodes_there : (keeps : Bool) (p : Tree) → first_fault p ≡ None → IsNumbered p.root → AreTellableNodes (kept_nodes keeps p)
nodes_there false p faultless numbered = record { numbered = omega arith; with_parents = refl; scopes = tt; parents = tt }
nodes_there true p faultless numbered =
    let entries : List NodeEntry = entered_nodes (steps p) in
    let few : node_count p.root ≤ 4294967294 = (no_fault-IsShaped p faultless).nodes in
    let each : AllByRecursion IsTellableNode (entered_nodes (steps p)) = nodes_tellable p faultless numbered in
    record {
      numbered = omega (arith, length-map entries seen_of, as_many p, few);
      with_parents = length-map entries (λ (entry : NodeEntry). entry.parent) ∙ sym (length-map entries seen_of);
      scopes = all_map IsTellableNode (λ (s : SeenNode). IsWrittenWhole s.scope) seen_of (λ entry h. h.scope) entries each;
      parents = all_map IsTellableNode IsWrittenWhole (λ (entry : NodeEntry). entry.parent) (λ entry h. h.parent) entries each;
    }

-- ---- classes

-- the classes that are noted
abbrev noted : Bool → Tree → List Class
noted notes p = if notes then classes p.root else []

noted_lists : (notes : Bool) (p : Tree) → classes_noted notes p ≡ lists_told (noted notes p)
noted_lists true p = refl
noted_lists false p = refl

classes_there : (notes : Bool) (p : Tree) → first_fault p ≡ None → IsNumbered p.root → AreTellableClasses (noted notes p)
classes_there true p faultless numbered = classes_bounded p faultless numbered
classes_there false p faultless numbered = record { numbered = omega arith; each = tt }

-- ---- all

module _ (p : Tree) (found : Found) (h : IsFoundIn p found) where
  tellable : IsTellable found (noted h.notes p)
  tellable = record {
    are = h.classes ∙ noted_lists h.notes p;
    nodes = subst AreTellableNodes (sym h.nodes) (nodes_there h.keeps p h.faultless h.numbered);
    tables = subst AreTellable (sym h.tables) (tables_tellable p h.faultless h.numbered);
    classes = classes_there h.notes p h.faultless h.numbered;
    labels = subst AreNumbers (sym h.labels) (labels_tellable p h.faultless h.numbered);
    count = let few : node_count p.root ≤ 4294967294 = (no_fault-IsShaped p h.faultless).nodes in omega (arith, h.count, few);
  }

  diagnostics_there : AllByRecursion IsTellableDiagnostic found.diagnostics
  diagnostics_there = subst (AllByRecursion IsTellableDiagnostic) (sym h.diagnostics) (diagnostics_tellable p h.faultless h.numbered h.checks)

pub reports_lose_nothing : (o q : Options) (p r : Tree) (a b : Found) → IsFoundIn p a → IsFoundIn r b → report_text o a ≡ report_text q b → TellTheSame o q a b
reports_lose_nothing o q p r a b h k e =
    let before : ToldBefore o q a b (noted h.notes p) (noted k.notes r) = report_tells o q a b (noted h.notes p) (noted k.notes r) (tellable p a h) (tellable r b k) e in
    record {
      tables = before.tables;
      labels = before.labels;
      diagnostics = diagnostics_told a b (diagnostics_there p a h) (diagnostics_there r b k) before.diagnosed;
      nodes = before.nodes;
      classes = λ x y. h.classes ∙ noted_lists h.notes p ∙ ap lists_told (before.classes x y) ∙ sym (k.classes ∙ noted_lists k.notes r);
      count = before.count;
    }

-- ---- answers

-- what is answered about a program was found in it
found_answered : (asked : Request) (x : End) (p : Tree) (text : List ℕ) → IsShaped p → IsNumbered p.root → (h : Answers asked x p text) → IsFoundIn p (found_of p h.tables h.diagnostics)
found_answered asked x p text shaped numbered h = record {
  faultless = IsShaped-no_fault p shaped;
  numbered = numbered;
  checks = asked.check;
  notes = true;
  keeps = true;
  nodes = refl;
  tables = h.built.tables;
  classes = refl;
  labels = refl;
  count = refl;
  diagnostics = h.built.told_of;
}

-- the answer is a report
report_answered : (asked : Request) (x : End) (p : Tree) (text : List ℕ) → asked.make ≡ None → (h : Answers asked x p text) → text ≡ report_text (options_of asked) (found_of p h.tables h.diagnostics)
report_answered asked x p text read h = h.told ∙ ap (λ make. text_by make (options_of asked) (found_of p h.tables h.diagnostics)) read

pub answers_lose_nothing : (input other : List ℕ) (p r : Tree) (asked also : Request) (x y : End) (text : List ℕ) → Stands input p → Stands other r → asked.make ≡ None → also.make ≡ None
    → (h : Answers asked x p text) (k : Answers also y r text) → TellTheSame (options_of asked) (options_of also) (found_of p h.tables h.diagnostics) (found_of r k.tables k.diagnostics)
answers_lose_nothing input other p r asked also x y text s t read also_read h k =
    reports_lose_nothing (options_of asked) (options_of also) p r (found_of p h.tables h.diagnostics) (found_of r k.tables k.diagnostics) (found_answered asked x p text s.shaped s.numbered h) (found_answered also y r text t.shaped t.numbered k)
    (sym (report_answered asked x p text read h) ∙ report_answered also y r text also_read k)
