-- A program with other marks has the same analysis, if those that are read are kept.
use Rattle.std.proofs.Common.{◌≡◌, ◌-◌, ◌==◌, List, Bool, true, false, not, cond, refl, ap, ◌∙◌, map, bit_and}
use Rattle.std.proofs.lemmas.Nat.{and_assoc}
use Rattle.semantic_kinds.specs.Marks.{mark_bit}
use Rattle.semantic_kinds.specs.MarkSets.{has_mark}
use Rattle.semantic_kinds.specs.declared.mark.Mark.{Mark}
use Rattle.semantic_kinds.specs.declared.mark.Mark.TheVariants as mark
use Rattle.semantic_kinds.specs.declared.marks.Marks.{Marks}
use Rattle.semantic_syntax.specs.Tables.{Tables, Scope}
use Rattle.semantic_tree.specs.Tree.{Tree}
use Rattle.semantic_tree.specs.declared.node.Node.{Node}
use Rattle.semantic_model.specs.Event.{Event, events}
use Rattle.semantic_model.specs.Fold.{start}
use Rattle.semantic_model.specs.Hoist.{run}
use Rattle.semantic_model.specs.NamespaceStates.{namespace_states}
use Rattle.semantic_model.specs.NodeTable.{node_tables, numbered_from, symbols_of}
use Rattle.semantic_model.specs.Reference.{Occurrence}
use Rattle.semantic_model.specs.Step.{Step, steps}
use Rattle.semantic_model.specs.TablesOf.{tables_by, tables_from}
use Rattle.semantic_model.specs.Tie.{ties, in_order}
use Rattle.program_laws.specs.ReadMarks.{is_read, KeepsRead, without_mark, without_where, unmarked_tree}
use Rattle.program_laws.specs.Remarked.{remarked_tree}
use Rattle.program_laws.specs.SameAnalysis.{HaveSameAnalysis}
use Rattle.program_laws.proofs.EventMarks.{references_same, scopes_same, events_same, states_same}
use Rattle.program_laws.proofs.StepMarks.{remarked_steps, steps_same}

abbrev tables_by_parts : List Scope → List Event → List Occurrence → Tables
tables_by_parts opened es rs = tables_from opened (run start es) (ties (run start es) es 0 rs) (in_order es (ties (run start es) es 0 rs))

module _ (f : Node → Marks) (keeps : KeepsRead f) where
  tables_same : (ss : List Step) → tables_by (remarked_steps f ss) ≡ tables_by ss
  tables_same ss = λ i. tables_by_parts (scopes_same f keeps ss i) (events_same f keeps ss i) (references_same f ss i)

  node_tables_same : (ss : List Step) → node_tables (remarked_steps f ss) ≡ node_tables ss
  node_tables_same ss = λ i. record {
    scopes = numbered_from 0 (map (λ s. s.node) (scopes_same f keeps ss i));
    symbols = symbols_of (run start (events_same f keeps ss i));
    references = numbered_from 0 (map (λ r. r.node) (references_same f ss i));
  }

  pub same_analysis : (p : Tree) → HaveSameAnalysis (remarked_tree f p) p
  same_analysis p = record {
    tables = ap tables_by (steps_same f keeps p) ∙ tables_same (steps p);
    at_nodes = ap node_tables (steps_same f keeps p) ∙ node_tables_same (steps p);
    conflicts = ap (λ es. (run start es).conflicts) (ap events (steps_same f keeps p) ∙ events_same f keeps (steps p));
    states = ap namespace_states (steps_same f keeps p) ∙ states_same f keeps (steps p);
  }

-- ---- one mark that is not read

-- each mark that is read stays
declare_stays : (taken : Mark) → is_read taken ≡ false → bit_and (4294967295 - mark_bit taken) (mark_bit mark.Declare) ≡ mark_bit mark.Declare
declare_stays mark.Declare h = absurd cc
declare_stays _ h = refl

pure_stays : (taken : Mark) → is_read taken ≡ false → bit_and (4294967295 - mark_bit taken) (mark_bit mark.Pure) ≡ mark_bit mark.Pure
pure_stays mark.Pure h = absurd cc
pure_stays _ h = refl

async_stays : (taken : Mark) → is_read taken ≡ false → bit_and (4294967295 - mark_bit taken) (mark_bit mark.Async) ≡ mark_bit mark.Async
async_stays mark.Async h = absurd cc
async_stays _ h = refl

generator_stays : (taken : Mark) → is_read taken ≡ false → bit_and (4294967295 - mark_bit taken) (mark_bit mark.Generator) ≡ mark_bit mark.Generator
generator_stays mark.Generator h = absurd cc
generator_stays _ h = refl

typeonly_stays : (taken : Mark) → is_read taken ≡ false → bit_and (4294967295 - mark_bit taken) (mark_bit mark.TypeOnly) ≡ mark_bit mark.TypeOnly
typeonly_stays mark.TypeOnly h = absurd cc
typeonly_stays _ h = refl

const_stays : (taken : Mark) → is_read taken ≡ false → bit_and (4294967295 - mark_bit taken) (mark_bit mark.Const) ≡ mark_bit mark.Const
const_stays mark.Const h = absurd cc
const_stays _ h = refl

computed_stays : (taken : Mark) → is_read taken ≡ false → bit_and (4294967295 - mark_bit taken) (mark_bit mark.Computed) ≡ mark_bit mark.Computed
computed_stays mark.Computed h = absurd cc
computed_stays _ h = refl

abstract_stays : (taken : Mark) → is_read taken ≡ false → bit_and (4294967295 - mark_bit taken) (mark_bit mark.Abstract) ≡ mark_bit mark.Abstract
abstract_stays mark.Abstract h = absurd cc
abstract_stays _ h = refl

optional_stays : (taken : Mark) → is_read taken ≡ false → bit_and (4294967295 - mark_bit taken) (mark_bit mark.Optional) ≡ mark_bit mark.Optional
optional_stays mark.Optional h = absurd cc
optional_stays _ h = refl

-- the bits but that of a mark that is not read have the bits of those that are
bit_stays : (asked taken : Mark) → is_read asked ≡ true → is_read taken ≡ false → bit_and (4294967295 - mark_bit taken) (mark_bit asked) ≡ mark_bit asked
bit_stays mark.Declare taken k h = declare_stays taken h
bit_stays mark.Pure taken k h = pure_stays taken h
bit_stays mark.Async taken k h = async_stays taken h
bit_stays mark.Generator taken k h = generator_stays taken h
bit_stays mark.TypeOnly taken k h = typeonly_stays taken h
bit_stays mark.Const taken k h = const_stays taken h
bit_stays mark.Computed taken k h = computed_stays taken h
bit_stays mark.Abstract taken k h = abstract_stays taken h
bit_stays mark.Optional taken k h = optional_stays taken h
bit_stays _ taken k h = absurd cc

one_kept : (m n : Mark) → is_read m ≡ false → is_read n ≡ true → (marks : Marks) → has_mark (without_mark marks m) n ≡ has_mark marks n
one_kept m n h k marks = ap (λ b. not (b == 0)) (and_assoc (mark_bit n) marks.bits (4294967295 - mark_bit m) ∙ ap (bit_and marks.bits) (bit_stays n m k h))

keeps_others : (test : Node → Bool) (m : Mark) → is_read m ≡ false → KeepsRead (without_where test m)
keeps_others test m h node n k = go (test node)
  where
    go : (b : Bool) → has_mark (cond b (without_mark node.marks m) node.marks) n ≡ has_mark node.marks n
    go true = one_kept m n h k node.marks
    go false = refl

pub same_unmarked : (test : Node → Bool) (m : Mark) (p : Tree) → is_read m ≡ false → HaveSameAnalysis (unmarked_tree test m p) p
same_unmarked test m p h = same_analysis (without_where test m) (keeps_others test m h) p
