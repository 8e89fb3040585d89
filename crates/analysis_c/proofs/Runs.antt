-- What a run answers over sinks that were empty.
use Rattle.std.proofs.Common.{◌≡◌, ℕ, List, [], Some, None, String, subst}
use Rattle.std.specs.declared.alloc.Global.{Global}
use Rattle.program_ends.specs.Calls.{SinkCall}
use Rattle.program_ends.specs.Completeness.{IsDoneOrMemory, IsUsageOrMemory}
use Rattle.program_ends.specs.FindingEnds.{end_of}
use Rattle.report.specs.Meaning.{Means, IsClearFor}
use Rattle.report.specs.Requests.{request_of}
use Rattle.program_ends.specs.declared.finding.FindingStatus.{FindingStatus}
use Rattle.analysis_c.specs.Answers.{source_with, sink_of, Ran}

-- a sink that held this, has taken more, and never failed
abbrev pub sink_from : List ℕ → List ℕ → SinkCall
sink_from before after = record { held = Some before; held_then = Some after; faults = 0; faults_then = 0 }

pub ran_from_empty : (had tree left before report before_errs message : List ℕ) (words : List (String Global)) (result : FindingStatus) → had ≡ tree → before ≡ [] → before_errs ≡ []
    → Means (source_with had left) (sink_from before report) (sink_from before_errs message) words result
    → (IsClearFor (request_of words) (source_with had left) (sink_from before report) → IsDoneOrMemory (end_of result))
    → (request_of words ≡ None → IsUsageOrMemory (end_of result)) → Ran tree report message words result
ran_from_empty had tree left before report before_errs message words result same empty empty_errs means complete usage =
    let of_tree : Means (source_with tree left) (sink_from before report) (sink_from before_errs message) words result =
    subst (λ x. Means (source_with x left) (sink_from before report) (sink_from before_errs message) words result) same means in
    let written : Means (source_with tree left) (sink_of report) (sink_from before_errs message) words result =
    subst (λ x. Means (source_with tree left) (sink_from x report) (sink_from before_errs message) words result) empty of_tree in
    let clear : (IsClearFor (request_of words) (source_with tree left) (sink_from before report) → IsDoneOrMemory (end_of result)) =
    subst (λ x. IsClearFor (request_of words) (source_with x left) (sink_from before report) → IsDoneOrMemory (end_of result)) same complete in
    record {
      left = left;
      means = subst (λ x. Means (source_with tree left) (sink_of report) (sink_from x message) words result) empty_errs written;
      complete = subst (λ x. IsClearFor (request_of words) (source_with tree left) (sink_from x report) → IsDoneOrMemory (end_of result)) empty clear;
      usage = usage;
    }
