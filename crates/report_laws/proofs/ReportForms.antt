-- The text of a report, as a form.
use Rattle.std.proofs.Common.{◌≡◌, ℕ, ◌≤◌, ◌^◌, Bool, true, false, if◌then◌else◌, List, [], ◌∷◌, ◌++◌, length, map, flat_map, codes, decimal, encode_utf8_all, option_map, append-nil, refl, sym, ap, ◌∙◌, arith}
use Rattle.std.specs.List.{AllByRecursion}
use Rattle.semantic_model.specs.Class.{Class}
use Rattle.semantic_diagnostics.specs.declared.diagnostic.Label.{Label}
use Rattle.semantic_diagnostics.specs.declared.diagnostic.Diagnostic.{Diagnostic}
use Rattle.semantic_syntax.specs.Tables.{Tables}
use Rattle.node_store.specs.NodeList.{NodeList}
use Rattle.node_store.specs.Outward.{numbered_from}
use Rattle.class_table.specs.Told.{lists_told}
use Rattle.report_ends.specs.Streams.{numbered_text}
use Rattle.report_lines.specs.Pieces as pieces
use Rattle.report_lines.specs.TableLines.{table_lines}
use Rattle.report_lines.specs.ClassLines.{all_class_lines}
use Rattle.report_lines.specs.CountLines.{node_line_by, label_line, stats_line}
use Rattle.report_lines.specs.DiagnosticLine.{said_or_dash, label_text, diagnostic_line}
use Rattle.report_answers.specs.Found.{Found}
use Rattle.report_answers.specs.Report.{where_asked, noted_text, counted_text, report_text}
use Rattle.report_answers.specs.declared.options.Options.{Options}
use Rattle.table_bounds.specs.Tellable.{AreNumbers, IsWrittenWhole, AreTellable, IsTellableClass, AreTellableClasses, IsTellableLabel, IsTellableDiagnostic}
use Rattle.report_laws.proofs.ClassForms.{class_form, class_value, class_text, class_written, classes_text, class_told}
use Rattle.report_laws.proofs.Forms.{number, name, name_or_dash, word_or_dash, Form, end, word, piece, each, Values, written, AreTold}
use Rattle.report_laws.proofs.Lists.{concat_onto, numbered, each_line, numbered_lines, all_map, all_numbered}
use Rattle.report_laws.proofs.NodeForms.{node_form, node_value, node_written, AreTellableNodes, nodes_told, stats_form, stats_value, stats_written, stats_told}
use Rattle.report_laws.proofs.TableForms.{span_form, table_form, table_value, span_written, tables_written}
use Rattle.report_laws.proofs.TablesTold.{tables_told}

-- ---- forms

abbrev pub label_form : Form
label_form = piece number (word (codes "\n") end)

abbrev pub place_form : Form
place_form = span_form (word (codes " ") (piece name_or_dash end))

abbrev pub diagnostic_form : Form
diagnostic_form = piece word_or_dash (word (codes " ") (piece name (each (codes " at ") place_form (word (codes " help ") (piece name_or_dash (word (codes " note ") (piece name_or_dash (word (codes "\n") end))))))))

-- what stands between the tables and the diagnostics
abbrev pub tail_form : Form
tail_form = each (codes "class ") class_form (each (codes "label ") label_form (each (codes "stats") stats_form end))

-- the lines before those on diagnostics
abbrev pub report_form : Form
report_form = each (codes "node ") node_form (table_form tail_form)

-- ---- labels and diagnostics

abbrev pub label_value : ℕ → Values label_form
label_value node = (node, tt)

label_written : (node : ℕ) (rest : List ℕ) → label_line node ++ rest ≡ codes "label " ++ written label_form (label_value node) rest
unfolding label_line
label_written node rest = concat_onto (codes "label " ∷ decimal node ∷ codes "\n" ∷ []) rest

abbrev pub place_value : Label → Values place_form
place_value l = (l.span.start, (l.span.end, (l.text, tt)))

place_written : (l : Label) (rest : List ℕ) → label_text l ++ rest ≡ codes " at " ++ written place_form (place_value l) rest
unfolding label_text
place_written l rest =
    concat_onto (codes " at " ∷ pieces.span_text l.span ∷ codes " " ∷ said_or_dash l.text ∷ []) rest ∙ ap (λ more. codes " at " ++ more) (span_written l.span (codes " " ++ (said_or_dash l.text ++ rest)))

abbrev pub diagnostic_value : Diagnostic → Values diagnostic_form
diagnostic_value d = (d.code, (d.message, (map place_value d.labels, (d.help, (d.note, tt)))))

pub diagnostic_written : (d : Diagnostic) (rest : List ℕ) → diagnostic_line d ++ rest ≡ codes "diag " ++ written diagnostic_form (diagnostic_value d) rest
unfolding diagnostic_line
diagnostic_written d rest =
    let behind : List ℕ = codes " help " ++ (said_or_dash d.help ++ (codes " note " ++ (said_or_dash d.note ++ (codes "\n" ++ rest)))) in
    concat_onto (codes "diag " ∷ pieces.plain_or_dash (option_map encode_utf8_all d.code) ∷ codes " " ∷ pieces.quoted (encode_utf8_all d.message) ∷ flat_map label_text d.labels ∷ codes " help " ∷ said_or_dash d.help ∷ codes " note " ∷ said_or_dash d.note ∷ codes "\n" ∷ []) rest
    ∙ ap (λ more. codes "diag " ++ (pieces.plain_or_dash (option_map encode_utf8_all d.code) ++ (codes " " ++ (pieces.quoted (encode_utf8_all d.message) ++ more))))
    (each_line (codes " at ") (written place_form) label_text place_value place_written d.labels behind behind refl)

-- ---- all

abbrev pub if_asked : {A : Type 0} → Bool → List A → List A
if_asked asked xs = if asked then xs else []

asked_lines : {A : Type 0} (asked : Bool) (line : A → List ℕ) (xs : List A) → where_asked asked (flat_map line xs) ≡ flat_map line (if_asked asked xs)
asked_lines true line xs = refl
asked_lines false line xs = refl

asked_stats : (asked : Bool) (count : ℕ) (t : Tables) → where_asked asked (stats_line count t) ≡ flat_map (λ (n : ℕ). stats_line n t) (if_asked asked (count ∷ []))
asked_stats true count t = sym (append-nil (stats_line count t))
asked_stats false count t = refl

asked_classes : (asked : Bool) (cs : List Class) → where_asked asked (all_class_lines (lists_told cs)) ≡ numbered_text class_text 0 (if_asked asked cs)
asked_classes true cs = classes_text cs
asked_classes false cs = refl

abbrev counted_value : Options → Found → Values (each (codes "stats") stats_form end)
counted_value o found = (map (stats_value found.tables) (if_asked o.stats (found.count ∷ [])), tt)

-- the lines on diagnostics
abbrev pub diagnosed : Found → List ℕ
diagnosed found = flat_map diagnostic_line found.diagnostics

-- where these classes are told
abbrev pub tail_value : Options → Found → List Class → Values tail_form
tail_value o found cs = (numbered class_value 0 (if_asked o.classes cs), (map label_value found.labels, counted_value o found))

abbrev pub report_value : Options → Found → List Class → Values report_form
report_value o found cs = (map (node_value found.nodes.parents) (if_asked o.nodes (numbered_from 0 found.nodes.nodes)), table_value tail_form found.tables (tail_value o found cs))

counted_written : (o : Options) (found : Found) → counted_text o found ≡ written (each (codes "stats") stats_form end) (counted_value o found) (diagnosed found)
counted_written o found =
    ap (λ text. text ++ diagnosed found) (asked_stats o.stats found.count found.tables)
    ∙ each_line (codes "stats") (written stats_form) (λ n. stats_line n found.tables) (stats_value found.tables) (stats_written found.tables) (if_asked o.stats (found.count ∷ []))
    (diagnosed found) (diagnosed found) refl

-- the lines on diagnostics, as a form
pub diagnosed_written : (found : Found) → diagnosed found ≡ written (each (codes "diag ") diagnostic_form end) (map diagnostic_value found.diagnostics, tt) []
diagnosed_written found =
    sym (append-nil (diagnosed found)) ∙ each_line (codes "diag ") (written diagnostic_form) diagnostic_line diagnostic_value diagnostic_written found.diagnostics [] [] refl

tail_written : (o : Options) (found : Found) (cs : List Class) → found.classes ≡ lists_told cs → noted_text o found ≡ written tail_form (tail_value o found cs) (diagnosed found)
tail_written o found cs are =
    ap (λ text. text ++ (flat_map label_line found.labels ++ counted_text o found)) (ap (λ lists. where_asked o.classes (all_class_lines lists)) are ∙ asked_classes o.classes cs)
    ∙ numbered_lines (codes "class ") (written class_form) class_text class_value class_written 0 (if_asked o.classes cs) (flat_map label_line found.labels ++ counted_text o found)
    (written (each (codes "label ") label_form (each (codes "stats") stats_form end)) (map label_value found.labels, counted_value o found) (diagnosed found))
    (each_line (codes "label ") (written label_form) label_line label_value label_written found.labels (counted_text o found)
    (written (each (codes "stats") stats_form end) (counted_value o found) (diagnosed found)) (counted_written o found))

pub report_written : (o : Options) (found : Found) (cs : List Class) → found.classes ≡ lists_told cs → report_text o found ≡ written report_form (report_value o found cs) (diagnosed found)
report_written o found cs are =
    ap (λ text. text ++ (table_lines found.tables ++ noted_text o found)) (asked_lines o.nodes (node_line_by found.nodes.parents) (numbered_from 0 found.nodes.nodes))
    ∙ each_line (codes "node ") (written node_form) (node_line_by found.nodes.parents) (node_value found.nodes.parents) (node_written found.nodes.parents) (if_asked o.nodes (numbered_from 0 found.nodes.nodes))
    (table_lines found.tables ++ noted_text o found) (written (table_form tail_form) (table_value tail_form found.tables (tail_value o found cs)) (diagnosed found))
    (ap (λ text. table_lines found.tables ++ text) (tail_written o found cs are) ∙ tables_written tail_form (tail_value o found cs) found.tables (diagnosed found))

-- ---- what is told can be read back

place_told : (l : Label) → IsTellableLabel l → AreTold place_form (place_value l)
place_told l h = (h.start, (h.end, (tt, tt)))

pub diagnostic_told : (d : Diagnostic) → IsTellableDiagnostic d → AreTold diagnostic_form (diagnostic_value d)
diagnostic_told d h = (h.code, (tt, (all_map IsTellableLabel (AreTold place_form) place_value place_told d.labels h.labels, (tt, (tt, tt)))))

-- what is told of an analysis is within bounds; these are its classes
pub record IsTellable (found : Found) (cs : List Class) : Type 0 where
  pub are : found.classes ≡ lists_told cs
  pub nodes : AreTellableNodes found.nodes
  pub tables : AreTellable found.tables
  pub classes : AreTellableClasses cs
  pub labels : AreNumbers found.labels
  pub count : IsWrittenWhole found.count

if_asked_all : {A : Type 0} (P : A → Type 0) (asked : Bool) (xs : List A) → AllByRecursion P xs → AllByRecursion P (if_asked asked xs)
if_asked_all P true xs h = h
if_asked_all P false xs h = tt

if_asked_few : {A : Type 0} (asked : Bool) (xs : List A) → length xs ≤ 2 ^ 64 → length (if_asked asked xs) ≤ 2 ^ 64
if_asked_few true xs h = h
if_asked_few false xs h = omega arith

nodes_asked : (asked : Bool) (list : NodeList) → AreTellableNodes list → AllByRecursion (AreTold node_form) (map (node_value list.parents) (if_asked asked (numbered_from 0 list.nodes)))
nodes_asked true list h = nodes_told list h
nodes_asked false list h = tt

tail_told : (o : Options) (found : Found) (cs : List Class) → IsTellable found cs → AreTold tail_form (tail_value o found cs)
tail_told o found cs h = (
  all_numbered IsTellableClass (AreTold class_form) class_value (2 ^ 64) class_told 0 (if_asked o.classes cs) (omega (arith, if_asked_few o.classes cs h.classes.numbered)) (if_asked_all IsTellableClass o.classes cs h.classes.each),
  (
    all_map IsWrittenWhole (AreTold label_form) label_value (λ n k. (k, tt)) found.labels h.labels,
    (all_map IsWrittenWhole (AreTold stats_form) (stats_value found.tables) (λ n k. stats_told found.tables n h.tables k) (if_asked o.stats (found.count ∷ [])) (if_asked_all IsWrittenWhole o.stats (found.count ∷ []) (h.count, tt)), tt),
  ),
)

pub report_told : (o : Options) (found : Found) (cs : List Class) → IsTellable found cs → AreTold report_form (report_value o found cs)
report_told o found cs h = (nodes_asked o.nodes found.nodes h.nodes, tables_told found.tables h.tables tail_form (tail_value o found cs) (tail_told o found cs h))
