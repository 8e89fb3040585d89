-- What is read of an input.
use Rattle.std.proofs.Common.{◌≡◌, ℕ, List, Option, Some, Result, Ok, Err, subst, sym}
use Rattle.std.specs.Result.{IsErrAnd, IfOk, IfErr}
use Rattle.std.specs.Str.{IsUtf8}
use Rattle.serde_json.specs.Data.{Data}
use Rattle.serde_json.specs.Read.{read}
use Rattle.semantic_tree.specs.Tree.{Tree, IsNumbered}
use Rattle.semantic_tree.specs.Shaped.{IsShaped}
use Rattle.semantic_tree.specs.declared.error.TreeError.{TreeError}
use Rattle.semantic_tree.specs.declared.error.TreeError.TheVariants as tree
use Rattle.tree_json.specs.Outcome.{IsWantOfMemory}
use Rattle.tree_json.specs.Reading.{reading, Refuses}
use Rattle.tree_json.specs.WrittenForm.{IsWrittenForm, IsReadAs}
use Rattle.report_ends.specs.Errors.{error_of_tree}
use Rattle.report_ends.specs.Streams.{IsReadWhole, HadAtMost, HadMoreThan, ReadCause}
use Rattle.report_ends.specs.Causes.{Rose}
use Rattle.report_ends.specs.declared.error.ReportError.{ReportError}
use Rattle.report_ends.specs.declared.error.ReportError.TheVariants as error
use Rattle.program_ends.specs.Calls.{SourceCall}
use Rattle.program_ends.specs.Reads.{Stands, InputCause}
use Rattle.program_ends.specs.Meaning.{Finds, NotFound}
use Rattle.program_ends.specs.Completeness.{IsNotRefused}

refused_cause : (input : List ℕ) (cause : TreeError) → (¬ (IsWantOfMemory cause) → Refuses (reading input) cause) → InputCause input (error_of_tree cause)
refused_cause input (tree.Memory wanting) why = tt
refused_cause input other why = record { other = λ h. h; why = why (λ h. h) }

-- the reader's refusal is the input's
pub refused_input : {T : Type 0} (input : List ℕ) (cause : TreeError) (result : Result T ReportError) → (¬ (IsWantOfMemory cause) → Refuses (reading input) cause) → IsErrAnd result (λ told. told ≡ error_of_tree cause) → IfErr result (InputCause input)
refused_input input cause (Err told) why same = subst (InputCause input) (sym same) (refused_cause input cause why)
refused_input input cause (Ok x) why same = tt

-- the reader's want of memory is told as such
pub memory_told : {T : Type 0} (cause : TreeError) (result : Result T ReportError) → IsWantOfMemory cause → IsErrAnd result (λ told. told ≡ error_of_tree cause) → IfErr result (λ told. told ≡ error.Memory)
memory_told (tree.Memory wanting) (Err told) memory same = same
memory_told (tree.Memory wanting) (Ok x) memory same = tt
memory_told other result memory same = absurd memory

-- where the reader is complete, it reads a program from an input that stands for it
pub reads_form : (bytes input : List ℕ) (p : Tree) (result : Result Tree TreeError) → ((d : Data) (q : Tree) → IsUtf8 bytes → read bytes ≡ Some d → IsWrittenForm d q → IsNumbered q.root → IsShaped q → IsReadAs q result)
    → bytes ≡ input → Stands input p → IsReadAs p result
reads_form bytes input p result complete same form =
    let told : Stands bytes p = subst (λ b. Stands b p) (sym same) form in
    complete told.value p told.utf8 told.read told.written told.numbered told.shaped

-- ---- a whole source

-- an input that isn't read whole
unread_cause : (source : SourceCall) (cause : ReportError) → ReadCause (Rose source.faults source.faults_then) (HadMoreThan 67108864 source.left) cause → NotFound source cause
unread_cause source (error.Tree refusal) why = absurd why
unread_cause source error.TooLong why = why
unread_cause source error.Read why = why
unread_cause source error.Write why = absurd why
unread_cause source error.Memory why = tt

pub not_read : {T : Type 0} (source : SourceCall) (cause : ReportError) (result : Result T ReportError) → ReadCause (Rose source.faults source.faults_then) (HadMoreThan 67108864 source.left) cause → IsErrAnd result (λ told. told ≡ cause) → IfErr result (NotFound source)
not_read source cause (Err told) why same = subst (NotFound source) (sym same) (unread_cause source cause why)
not_read source cause (Ok x) why same = tt

unread_no_refusal : (rose longer : Type 0) (cause : ReportError) → ReadCause rose longer cause → IsNotRefused cause
unread_no_refusal rose longer (error.Tree refusal) why = absurd why
unread_no_refusal rose longer other why = tt

-- an input that isn't read whole isn't refused
pub not_read_no_refusal : {T : Type 0} (rose longer : Type 0) (cause : ReportError) (result : Result T ReportError) → ReadCause rose longer cause → IsErrAnd result (λ told. told ≡ cause) → IfErr result IsNotRefused
not_read_no_refusal rose longer cause (Err told) why same = subst IsNotRefused (sym same) (unread_no_refusal rose longer cause why)
not_read_no_refusal rose longer cause (Ok x) why same = tt

-- an input is what the source had
pub input_is : (left new : Option (List ℕ)) (items input : List ℕ) → left ≡ Some input → IsReadWhole left new items → items ≡ input
input_is left new items input told whole =
    let known : IsReadWhole (Some input) new items = subst (λ l. IsReadWhole l new items) told whole in known.0

-- the program of the input is found
pub finds : (source : SourceCall) (bytes : List ℕ) (p : Tree) → IsReadWhole source.left source.left_then bytes → HadAtMost 67108864 source.left → Stands bytes p → Finds Stands source p
finds source bytes p whole fits stands = record { bytes = bytes; whole = whole; fits = fits; stands = stands }

-- the input is refused, or memory was wanting
not_found : (source : SourceCall) (bytes : List ℕ) (cause : ReportError) → IsReadWhole source.left source.left_then bytes → HadAtMost 67108864 source.left → InputCause bytes cause → NotFound source cause
not_found source bytes (error.Tree refusal) whole fits why = record { bytes = bytes; whole = whole; fits = fits; why = why }
not_found source bytes error.TooLong whole fits why = absurd why
not_found source bytes error.Read whole fits why = absurd why
not_found source bytes error.Write whole fits why = absurd why
not_found source bytes error.Memory whole fits why = tt

-- what the reader answers of the bytes of a source
pub found_of : (source : SourceCall) (bytes : List ℕ) (result : Result Tree ReportError) → IsReadWhole source.left source.left_then bytes → HadAtMost 67108864 source.left → IfOk result (Stands bytes) → IfOk result (Finds Stands source)
found_of source bytes (Ok p) whole fits stands = finds source bytes p whole fits stands
found_of source bytes (Err cause) whole fits stands = tt

pub not_found_of : (source : SourceCall) (bytes : List ℕ) (result : Result Tree ReportError) → IsReadWhole source.left source.left_then bytes → HadAtMost 67108864 source.left → IfErr result (InputCause bytes) → IfErr result (NotFound source)
not_found_of source bytes (Ok p) whole fits why = tt
not_found_of source bytes (Err cause) whole fits why = not_found source bytes cause whole fits why

-- want of memory isn't a refusal
pub memory_is_no_refusal : {T : Type 0} (result : Result T ReportError) → IfErr result (λ cause. cause ≡ error.Memory) → IfErr result IsNotRefused
memory_is_no_refusal (Ok x) memory = tt
memory_is_no_refusal (Err cause) memory = subst IsNotRefused (sym memory) tt
