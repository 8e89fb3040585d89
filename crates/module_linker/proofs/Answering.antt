-- What is given of modules, and what becomes of an input.
use Rattle.std.proofs.Common.{◌≡◌, inl, inr, ℕ, List, Option, Some, None, Result, Ok, Err, subst, sym, ap, ◌∙◌, refl}
use Rattle.std.specs.Result.{IsErrAnd, IfErr}
use Rattle.report_ends.specs.Streams.{Writes}
use Rattle.report_ends.specs.declared.error.ReportError.{ReportError}
use Rattle.report_ends.specs.declared.error.ReportError.TheVariants as error
use Rattle.program_ends.specs.Calls.{SourceCall, SinkCall, sink_call, Untouched}
use Rattle.program_ends.specs.Meaning.{End, Finds, AnsweredPart}
use Rattle.program_ends.specs.Meaning as ends
use Rattle.module_set.specs.Outcome.{IsWantOfMemory}
use Rattle.module_set.specs.Reading.{StandsForSet, RefusesSet}
use Rattle.module_set.specs.declared.error.LinkError.{LinkError}
use Rattle.module_set.specs.declared.modules.Module.{Module}
use Rattle.module_set.proofs.Sequence.{only_memory}
use Rattle.link_model.specs.Module.{all_analysed}
use Rattle.link_model.specs.Outcome.{AreLinks, all_imports}
use Rattle.link_model.specs.Refusal.{refusal_of}
use Rattle.link_model.specs.declared.outcome.Link.{Link}
use Rattle.module_entries.specs.LinkLines.{link_lines}
use Rattle.program_ends.specs.FindingEnds.{end_of}
use Rattle.module_linker.specs.Codes.{status_for}
use Rattle.module_linker.specs.Failing.{NotFound, IsNotRefused}
use Rattle.module_linker.specs.Meaning.{StandsLinked, RefusedFor, Answers, GivesLinks, Fails, Ends}
use Rattle.module_linker.specs.declared.failure.LinkFailure.{LinkFailure}
use Rattle.module_linker.specs.declared.failure.LinkFailure.TheVariants.{Refused, Stopped}
use Rattle.program_ends.specs.declared.finding.FindingStatus.{FindingStatus}

-- ---- the links of modules

abbrev text_of : List Module → List Link → List ℕ
text_of ms links = link_lines (all_imports (all_analysed ms)) links

module _ {K : Type 0} (held : K → Option (List ℕ)) (faults : K → ℕ) (ms : List Module) where
  -- the modules aren't linked
  pub gives_refusal : (old : K) (e : LinkError) (result : Result FindingStatus LinkFailure) → (¬ IsWantOfMemory e → refusal_of ms ≡ Some e) → IsErrAnd result (λ told. told ≡ Refused e) → GivesLinks held faults old old ms result
  gives_refusal old e (Err told) why same = subst (λ f. GivesLinks held faults old old ms (Err f)) (sym same) (refl, why, refl)
  gives_refusal old e (Ok status) why same = absurd same

  answers_of : (links : List Link) → AreLinks ms links → Answers (end_of (status_for links)) ms (text_of ms links)
  answers_of links linked = record { links = links; linked = linked; told = refl; ends = refl }

  -- the links aren't written to their end
  pub gives_part : (old new : K) (links : List Link) (e : ReportError) (result : Result FindingStatus LinkFailure) → refusal_of ms ≡ None → AreLinks ms links → Writes held faults old new (text_of ms links) (Err e) → IsErrAnd result (λ told. told ≡ Stopped e) → GivesLinks held faults old new ms result
  gives_part old new links e (Err told) none linked writes same =
      subst (λ f. GivesLinks held faults old new ms (Err f)) (sym same) (none, end_of (status_for links), text_of ms links, answers_of links linked, writes)
  gives_part old new links e (Ok status) none linked writes same = absurd same

  -- the links are written
  pub gives_all : (old new : K) (links : List Link) (status : FindingStatus) → refusal_of ms ≡ None → AreLinks ms links → Writes held faults old new (text_of ms links) (Ok tt) → status ≡ status_for links → GivesLinks held faults old new ms (Ok status)
  gives_all old new links status none linked writes is =
      (none, text_of ms links, subst (λ s. Answers (end_of s) ms (text_of ms links)) (sym is) (answers_of links linked), writes)

  -- of modules that are linked nothing is refused
  pub given_kept : (same : List Module) (old new : K) (result : Result FindingStatus LinkFailure) → ms ≡ same → refusal_of same ≡ None → GivesLinks held faults old new ms result → IfErr result IsNotRefused
  given_kept same old new (Ok status) is none given = tt
  given_kept same old new (Err (Stopped e)) is none given = tt
  given_kept same old new (Err (Refused e)) is none given = only_memory e (λ other. clash (sym none ∙ sym (ap refusal_of is) ∙ given.1 other))
    where
      clash : {A : Type 0} {x : A} → None ≡ Some x → ⊥
      clash h = absurd cc

-- ---- what becomes of an input

module _ (source : SourceCall) where
  refused_set : (e : LinkError) → ¬ IsWantOfMemory e → ends.Refused RefusesSet source e → ends.Refused RefusedFor source e
  refused_set e other r = record { bytes = r.bytes; whole = r.whole; fits = r.fits; why = record { other = other; why = inl r.why } }

  fails_unfound : (out : SinkCall) (failure : LinkFailure) → NotFound source failure → Untouched out → Fails source out failure
  fails_unfound out (Refused e) why untouched = (untouched, λ other. refused_set e other (why other))
  fails_unfound out (Stopped (error.Tree cause)) why untouched = why
  fails_unfound out (Stopped error.TooLong) why untouched = (untouched, why)
  fails_unfound out (Stopped error.Read) why untouched = (untouched, why)
  fails_unfound out (Stopped error.Write) why untouched = absurd why
  fails_unfound out (Stopped error.Memory) why untouched = inl untouched

  -- no set is found
  pub ends_unfound : (out : SinkCall) (failure : LinkFailure) (result : Result FindingStatus LinkFailure) → NotFound source failure → Untouched out → IsErrAnd result (λ told. told ≡ failure) → Ends source out result
  ends_unfound out failure (Err told) why untouched same = subst (Fails source out) (sym same) (fails_unfound out failure why untouched)
  ends_unfound out failure (Ok status) why untouched same = absurd same

  linked : (ms : List Module) → Finds StandsForSet source ms → refusal_of ms ≡ None → Finds StandsLinked source ms
  linked ms found none = record { bytes = found.bytes; whole = found.whole; fits = found.fits; stands = record { set = found.stands; linkable = none } }

  module _ {K : Type 0} (held : K → Option (List ℕ)) (faults : K → ℕ) (old new : K) (ms : List Module) (found : Finds StandsForSet source ms) where
    part_of : (end : End) (text : List ℕ) (e : ReportError) → refusal_of ms ≡ None → Answers end ms text → Writes held faults old new text (Err e) → AnsweredPart (Finds StandsLinked) Answers source (sink_call held faults old new)
    part_of end text e none answers writes = record { what = ms; gives = linked ms found none; end = end; text = text; answers = answers; told = writes.part }

    stopped : (end : End) (text : List ℕ) (e : ReportError) → refusal_of ms ≡ None → Answers end ms text → Writes held faults old new text (Err e) → Fails source (sink_call held faults old new) (Stopped e)
    stopped end text (error.Tree cause) none answers writes = writes.cause
    stopped end text error.TooLong none answers writes = absurd writes.cause
    stopped end text error.Read none answers writes = absurd writes.cause
    stopped end text error.Write none answers writes = (writes.cause, part_of end text error.Write none answers writes)
    stopped end text error.Memory none answers writes = inr (part_of end text error.Memory none answers writes)

    -- what is given of the modules that are found
    pub ends_given : (result : Result FindingStatus LinkFailure) → GivesLinks held faults old new ms result → Ends source (sink_call held faults old new) result
    ends_given (Ok status) given = record { what = ms; gives = linked ms found given.0; text = given.1; answers = given.2; told = given.3.whole }
    ends_given (Err (Refused e)) given = (given.0, λ other. record { bytes = found.bytes; whole = found.whole; fits = found.fits; why = record { other = other; why = inr (record { modules = ms; set = found.stands; why = given.1 other }) } })
    ends_given (Err (Stopped e)) given = stopped given.1 given.2 e given.0 given.3 given.4

-- a set that isn't found
pub unfound_kept : (failure : LinkFailure) (result : Result FindingStatus LinkFailure) → IsNotRefused failure → IsErrAnd result (λ told. told ≡ failure) → IfErr result IsNotRefused
unfound_kept failure (Err told) kept same = subst IsNotRefused (sym same) kept
unfound_kept failure (Ok status) kept same = tt
