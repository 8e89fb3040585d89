-- What becomes of a request, before it is told.
use Rattle.std.proofs.Common.{◌≡◌, inl, inr, ℕ, List, Option, Result, Ok, Err, subst, sym, refl}
use Rattle.std.specs.Result.{IsErrAnd, IfErr}
use Rattle.semantic_tree.specs.Tree.{Tree}
use Rattle.semantic_tree.proofs.ShapedLaws.{IsShaped-no_fault}
use Rattle.tree_json.specs.Reading.{listed_program, reading}
use Rattle.tree_json.proofs.Completes.{reading-form}
use Rattle.tree_json.proofs.Ends.{read-as}
use Rattle.report_ends.specs.Streams.{WriteCause, ReadKeeps, Writes}
use Rattle.report_ends.specs.declared.error.ReportError.{ReportError}
use Rattle.report_ends.specs.declared.error.ReportError.TheVariants as error
use Rattle.program_ends.specs.Calls.{SourceCall, SinkCall, sink_call, Untouched}
use Rattle.program_ends.specs.Completeness.{IsClear, IsNotRefused}
use Rattle.program_ends.specs.Meaning.{Finds, NotFound, Stopped}
use Rattle.program_ends.specs.Faults.{SourceKept, SinkKept, FaultsEnd}
use Rattle.program_ends.specs.Meaning as ends
use Rattle.program_ends.specs.Reads.{Stands}
use Rattle.program_ends.proofs.Faults.{unread_due, unwritten_due, wanting_due}
use Rattle.program_ends.proofs.Inputs.{input_is}
use Rattle.program_ends.proofs.Meanings.{stopped_reading, stopped_writing}
use Rattle.renamer.specs.Answers.{IsAnswer, answer_to, program_text}
use Rattle.renamer.specs.Meaning.{Answers, WritesText, GivesAnswer, Ends, IsGoodInput, end_due}
use Rattle.renamer.specs.Requests.{RenameRequest}
use Rattle.renamer.specs.declared.refusal.RequestError.{RequestError}
use Rattle.renamer.specs.declared.refusal.RequestError.TheVariants as request_error
use Rattle.renamer.proofs.Asking.{is_renamed}

-- ---- the text

-- memory was wanting before there was a text
pub no_text : {K : Type 0} (held : K → Option (List ℕ)) (faults : K → ℕ) (old : K) (text : List ℕ) (result : Result Unit ReportError) → IsErrAnd result (λ told. told ≡ error.Memory) → WritesText held faults old old text result
no_text held faults old text (Err told) same = inl (same, refl)
no_text held faults old text (Ok done) same = absurd same

-- the text was written, or a prefix of it
pub some_text : {K : Type 0} (held : K → Option (List ℕ)) (faults : K → ℕ) (old new : K) (piece text : List ℕ) (result : Result Unit ReportError) → piece ≡ text → Writes held faults old new piece result → WritesText held faults old new text result
some_text held faults old new piece text (Ok done) same writes = subst (λ t. Writes held faults old new t (Ok done)) same writes
some_text held faults old new piece text (Err cause) same writes = inr (subst (λ t. Writes held faults old new t (Err cause)) same writes)

-- ---- the answer

answers : (asked : RenameRequest) (p q : Tree) → answer_to asked p ≡ Ok q → Answers asked ends.done p (program_text q)
answers asked p q is = record { renamed = q; gives = is; is_renamed = is_renamed asked p q is; told = refl; ends = refl }

no_refusal : (rose : Type 0) (cause : ReportError) → WriteCause rose cause → IsNotRefused cause
no_refusal rose (error.Tree refusal) why = absurd why
no_refusal rose error.TooLong why = tt
no_refusal rose error.Read why = tt
no_refusal rose error.Write why = tt
no_refusal rose error.Memory why = tt

module _ {K : Type 0} (held : K → Option (List ℕ)) (faults : K → ℕ) (asked : RenameRequest) (p : Tree) where
  -- there is no answer
  pub gives_none : (old : K) (e : RequestError) (result : Result Unit RequestError) → IsAnswer asked p (Err e) → IsErrAnd result (λ told. told ≡ e) → GivesAnswer held faults old old asked p result
  gives_none old e (Ok done) is same = absurd same
  gives_none old e (Err told) is same = subst (λ x. GivesAnswer held faults old old asked p (Err x)) (sym same) (go e is)
    where
      go : (x : RequestError) → IsAnswer asked p (Err x) → GivesAnswer held faults old old asked p (Err x)
      go (request_error.Refused refusal) due = (due, refl, refl)
      go (request_error.Stopped cause) memory = inl (memory, refl)

  -- there is one, and it is written, or a prefix of it
  pub gives_part : (old new : K) (q : Tree) (cause : ReportError) (result : Result Unit RequestError) → IsAnswer asked p (Ok q) → WritesText held faults old new (program_text q) (Err cause)
      → IsErrAnd result (λ told. told ≡ request_error.Stopped cause) → GivesAnswer held faults old new asked p result
  gives_part old new q cause (Ok done) is writes same = absurd same
  gives_part old new q cause (Err told) is (inl memory) same = subst (λ x. GivesAnswer held faults old new asked p (Err x)) (sym same) (inl memory)
  gives_part old new q cause (Err told) is (inr part) same = subst (λ x. GivesAnswer held faults old new asked p (Err x)) (sym same) (inr (program_text q, answers asked p q is, part))

  pub gives_whole : (old new : K) (q : Tree) → IsAnswer asked p (Ok q) → WritesText held faults old new (program_text q) (Ok tt) → GivesAnswer held faults old new asked p (Ok tt)
  gives_whole old new q is writes = (program_text q, answers asked p q is, writes)

  -- so the input was good
  pub gives_good : (old new : K) (result : Result Unit RequestError) → GivesAnswer held faults old new asked p result → IfErr result IsGoodInput
  gives_good old new (Ok done) given = tt
  gives_good old new (Err (request_error.Refused refusal)) given = tt
  gives_good old new (Err (request_error.Stopped cause)) (inl memory) = subst IsNotRefused (sym memory.0) tt
  gives_good old new (Err (request_error.Stopped cause)) (inr part) = no_refusal _ cause part.2.cause

  -- what was given is what becomes of the request
  pub gives_ends : (source : SourceCall) (old new : K) (result : Result Unit RequestError) → Finds Stands source p → GivesAnswer held faults old new asked p result → Ends asked source (sink_call held faults old new) result
  gives_ends source old new (Ok done) finds given = record { what = p; gives = finds; text = given.0; answers = given.1; told = given.2.whole }
  gives_ends source old new (Err (request_error.Refused refusal)) finds given = (given.1, (p, finds, given.0))
  gives_ends source old new (Err (request_error.Stopped cause)) finds (inl memory) =
      subst (Stopped (Unit {0}) (Finds Stands) (Answers asked) source (sink_call held faults old new)) (sym memory.0) (inl tt, inl memory.1)
  gives_ends source old new (Err (request_error.Stopped cause)) finds (inr part) =
      stopped_writing (Unit {0}) (Finds Stands) (Answers asked) source held faults old new p ends.done part.0 cause (inl tt) finds part.1 part.2

  -- an end that failed is told, or memory was wanting
  pub gives_failing : (source : SourceCall) (old new : K) (result : Result Unit RequestError) → SourceKept source → GivesAnswer held faults old new asked p result → FaultsEnd source (sink_call held faults old new) (end_due result)
  gives_failing source old new (Ok done) read given = record { reading = inl read; writing = inl given.2.kept }
  gives_failing source old new (Err (request_error.Refused refusal)) read given = record { reading = inl read; writing = inl given.2 }
  gives_failing source old new (Err (request_error.Stopped cause)) read (inl memory) = wanting_due held faults source old new cause memory.0
  gives_failing source old new (Err (request_error.Stopped cause)) read (inr part) = unwritten_due held faults source old new part.0 cause read part.2

-- ---- no program

pub unfound_failing : (source : SourceCall) (out : SinkCall) (cause : ReportError) (result : Result Unit RequestError) → SinkKept out → ReadKeeps {T = Unit {0}} (SourceKept source) (Err cause) → IsErrAnd result (λ told. told ≡ request_error.Stopped cause) → FaultsEnd source out (end_due result)
unfound_failing source out cause (Ok done) wrote read same = absurd same
unfound_failing source out cause (Err told) wrote read same = subst (λ e. FaultsEnd source out (end_due (Err e))) (sym same) (unread_due source out cause wrote read)

-- no program is found
pub ends_unfound : (asked : RenameRequest) (source : SourceCall) (out : SinkCall) (cause : ReportError) (result : Result Unit RequestError) → Untouched out → NotFound source cause → IsErrAnd result (λ told. told ≡ request_error.Stopped cause) → Ends asked source out result
ends_unfound asked source out cause (Ok done) untouched why same = absurd same
ends_unfound asked source out cause (Err told) untouched why same =
    subst (λ x. Ends asked source out (Err x)) (sym same) (stopped_reading (Unit {0}) (Finds Stands) (Answers asked) source out cause tt untouched why)

pub unfound_good : (cause : ReportError) (result : Result Unit RequestError) → IsNotRefused cause → IsErrAnd result (λ told. told ≡ request_error.Stopped cause) → IfErr result IsGoodInput
unfound_good cause (Ok done) kept same = tt
unfound_good cause (Err told) kept same = subst IsGoodInput (sym same) kept

-- ---- one program

reads : (input : List ℕ) (p : Tree) → Stands input p → reading input ≡ Ok (listed_program p)
reads input p s = reading-form input s.value p s.utf8 s.read s.written (IsShaped-no_fault p s.shaped)

-- an input stands for one program
stands_same : (input : List ℕ) (p q : Tree) → Stands input p → Stands input q → p ≡ q
stands_same input p q s t = read-as (Ok p) (reading input) q (reads input p s) s.numbered tt (reads input q t) t.numbered (IsShaped-no_fault q t.shaped)

-- what is found is what the input stands for
pub found_is : (source : SourceCall) (out : SinkCall) (clear : IsClear source out) (p : Tree) → Finds Stands source p → p ≡ clear.program
found_is source out clear p finds =
    let known : finds.bytes ≡ clear.input = input_is source.left source.left_then finds.bytes clear.input clear.told finds.whole in
    stands_same clear.input p clear.program (subst (λ bytes. Stands bytes p) known finds.stands) clear.stands
