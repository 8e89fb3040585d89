-- The text of a report determines the tables, the unused labels and the diagnostics.
use Rattle.std.proofs.Common.{◌≡◌, ℕ, Bool, true, List, [], ◌∷◌, inl, inr, map, flat_map, codes, refl, sym, ap, ◌∙◌}
use Rattle.std.specs.List.{AllByRecursion}
use Rattle.semantic_syntax.specs.Tables.{Tables}
use Rattle.semantic_model.specs.Class.{Class}
use Rattle.semantic_diagnostics.specs.declared.diagnostic.Label.{Label}
use Rattle.semantic_diagnostics.specs.declared.diagnostic.Diagnostic.{Diagnostic}
use Rattle.node_store.specs.Outward.{numbered_from}
use Rattle.report_lines.specs.DiagnosticLine.{diagnostic_line}
use Rattle.report_answers.specs.Found.{Found}
use Rattle.report_answers.specs.Report.{report_text}
use Rattle.report_answers.specs.declared.options.Options.{Options}
use Rattle.table_bounds.specs.Tellable.{IsTellableDiagnostic}
use Rattle.report_laws.specs.Found.{HaveSameNodes}
use Rattle.report_laws.proofs.ClassForms.{class_value, classes_back}
use Rattle.report_laws.proofs.Closed.{BothSame}
use Rattle.report_laws.proofs.Determined.{determined, told_same}
use Rattle.report_laws.proofs.Forms.{end, each, Values, written, AreTold, BeginsAmong}
use Rattle.report_laws.proofs.Lists.{numbered, map_back, all_map}
use Rattle.report_laws.proofs.NodeForms.{node_value, nodes_back, stats_form, stats_value}
use Rattle.report_laws.proofs.ReportForms.{label_form, place_form, diagnostic_form, tail_form, report_form, label_value, place_value, diagnostic_value, diagnosed, if_asked, tail_value, report_value, diagnostic_written, diagnosed_written, report_written, diagnostic_told, IsTellable, report_told}
use Rattle.report_laws.proofs.TablesTold.{tables_back}

place_back : Values place_form → Label
place_back v = record { span = record { start = v.0; end = v.1.0 }; text = v.1.1.0 }

places_back : (ls : List Label) → map place_back (map place_value ls) ≡ ls
unfolding place_back
places_back ls = map_back place_value place_back (λ l. refl) ls

diagnostic_back : Values diagnostic_form → Diagnostic
diagnostic_back v = record { code = v.0; message = v.1.0; labels = map place_back v.1.1.0; help = v.1.1.1.0; note = v.1.1.1.1.0 }

diagnostics_back : (ds : List Diagnostic) → map diagnostic_back (map diagnostic_value ds) ≡ ds
unfolding diagnostic_back
diagnostics_back ds = map_back diagnostic_value diagnostic_back (λ d. ap (λ ls. record { code = d.code; message = d.message; labels = ls; help = d.help; note = d.note }) (places_back d.labels)) ds

labels_back : (ns : List ℕ) → map (λ (v : Values label_form). v.0) (map label_value ns) ≡ ns
labels_back ns = map_back label_value (λ v. v.0) (λ n. refl) ns

-- nothing stands behind the lines before, or a diagnostic
diagnosed_begins : (found : Found) → BeginsAmong (codes "diag " ∷ []) (diagnosed found)
diagnosed_begins found = by found.diagnostics
  where
    by : (ds : List Diagnostic) → BeginsAmong (codes "diag " ∷ []) (flat_map diagnostic_line ds)
    by [] = inr refl
    by (d ∷ ds) = inl (_, diagnostic_written d (flat_map diagnostic_line ds))

-- what the lines before those on diagnostics tell, and these
pub record ToldBefore (o q : Options) (a b : Found) (cs ds : List Class) : Type 0 where
  pub tables : a.tables ≡ b.tables
  pub labels : a.labels ≡ b.labels
  pub nodes : o.nodes ≡ true → q.nodes ≡ true → HaveSameNodes a.nodes b.nodes
  pub classes : o.classes ≡ true → q.classes ≡ true → cs ≡ ds
  pub count : o.stats ≡ true → q.stats ≡ true → a.count ≡ b.count
  pub diagnosed : diagnosed a ≡ diagnosed b

-- what both are asked for is there
both_asked : {A B : Type 0} (f : List A → B) (x y : Bool) (xs ys : List A) → x ≡ true → y ≡ true → f (if_asked x xs) ≡ f (if_asked y ys) → f xs ≡ f ys
both_asked f x y xs ys p q e = sym (ap (λ asked. f (if_asked asked xs)) p) ∙ e ∙ ap (λ asked. f (if_asked asked ys)) q

first_count : (t u : Tables) (m n : ℕ) → map (stats_value t) (m ∷ []) ≡ map (stats_value u) (n ∷ []) → m ≡ n
first_count t u m n e =
    let counts : map (λ (v : Values stats_form). v.0) (map (stats_value t) (m ∷ [])) ≡ map (λ (v : Values stats_form). v.0) (map (stats_value u) (n ∷ [])) = ap (map (λ (v : Values stats_form). v.0)) e in
    cc

pub report_tells : (o q : Options) (a b : Found) (cs ds : List Class) → IsTellable a cs → IsTellable b ds → report_text o a ≡ report_text q b → ToldBefore o q a b cs ds
report_tells o q a b cs ds ha hb e =
    let texts : written report_form (report_value o a cs) (diagnosed a) ≡ written report_form (report_value q b ds) (diagnosed b) = sym (report_written o a cs ha.are) ∙ e ∙ report_written q b ds hb.are in
    let both : BothSame (report_value o a cs) (report_value q b ds) (diagnosed a) (diagnosed b) =
    determined report_form (codes "diag " ∷ []) refl (report_value o a cs) (report_value q b ds) (report_told o a cs ha) (report_told q b ds hb) (diagnosed a) (diagnosed b) (diagnosed_begins a) (diagnosed_begins b) texts in
    let parts : (a.tables ≡ b.tables) × (tail_value o a cs ≡ tail_value q b ds) = tables_back tail_form a.tables b.tables (tail_value o a cs) (tail_value q b ds) ha.tables hb.tables (ap (λ v. v.1) both.0) in
    let nodes : map (node_value a.nodes.parents) (if_asked o.nodes (numbered_from 0 a.nodes.nodes)) ≡ map (node_value b.nodes.parents) (if_asked q.nodes (numbered_from 0 b.nodes.nodes)) = ap (λ v. v.0) both.0 in
    let classes : numbered class_value 0 (if_asked o.classes cs) ≡ numbered class_value 0 (if_asked q.classes ds) = ap (λ v. v.0) parts.1 in
    let labels : map label_value a.labels ≡ map label_value b.labels = ap (λ v. v.1.0) parts.1 in
    let counts : map (stats_value a.tables) (if_asked o.stats (a.count ∷ [])) ≡ map (stats_value b.tables) (if_asked q.stats (b.count ∷ [])) = ap (λ v. v.1.1.0) parts.1 in
    record {
      tables = parts.0;
      labels = sym (labels_back a.labels) ∙ ap (map (λ (v : Values label_form). v.0)) labels ∙ labels_back b.labels;
      nodes = λ x y. nodes_back a.nodes b.nodes ha.nodes hb.nodes
          (sym (ap (λ asked. map (node_value a.nodes.parents) (if_asked asked (numbered_from 0 a.nodes.nodes))) x) ∙ nodes ∙ ap (λ asked. map (node_value b.nodes.parents) (if_asked asked (numbered_from 0 b.nodes.nodes))) y);
      classes = λ x y. classes_back cs ds ha.classes hb.classes (both_asked (numbered class_value 0) o.classes q.classes cs ds x y classes);
      count = λ x y. first_count a.tables b.tables a.count b.count
          (sym (ap (λ asked. map (stats_value a.tables) (if_asked asked (a.count ∷ []))) x) ∙ counts ∙ ap (λ asked. map (stats_value b.tables) (if_asked asked (b.count ∷ []))) y);
      diagnosed = both.1;
    }

pub diagnostics_told : (a b : Found) → AllByRecursion IsTellableDiagnostic a.diagnostics → AllByRecursion IsTellableDiagnostic b.diagnostics → diagnosed a ≡ diagnosed b → a.diagnostics ≡ b.diagnostics
diagnostics_told a b ha hb e =
    let texts : written (each (codes "diag ") diagnostic_form end) (map diagnostic_value a.diagnostics, tt) [] ≡ written (each (codes "diag ") diagnostic_form end) (map diagnostic_value b.diagnostics, tt) [] = sym (diagnosed_written a) ∙ e ∙ diagnosed_written b in
    let values : ◌≡◌ {A = Values (each (codes "diag ") diagnostic_form end)} (map diagnostic_value a.diagnostics, tt) (map diagnostic_value b.diagnostics, tt) =
    told_same (each (codes "diag ") diagnostic_form end) refl (map diagnostic_value a.diagnostics, tt) (map diagnostic_value b.diagnostics, tt)
    (all_map IsTellableDiagnostic (AreTold diagnostic_form) diagnostic_value diagnostic_told a.diagnostics ha, tt) (all_map IsTellableDiagnostic (AreTold diagnostic_form) diagnostic_value diagnostic_told b.diagnostics hb, tt) texts in
    sym (diagnostics_back a.diagnostics) ∙ ap (map diagnostic_back) (ap (λ v. v.0) values) ∙ diagnostics_back b.diagnostics
