-- The lines on tangled names.
use Rattle.std.specs.Prelude.{◌≡◌, ℕ, List, [], ◌∷◌, ◌++◌, codes, decimal}
use Rattle.std.specs.List.{concat, flat_map}
use Rattle.std.specs.Str.{encode_utf8_all}
use Rattle.semantic_syntax.specs.Reading.{symbol_of}
use Rattle.semantic_syntax.specs.Tables.{Tables}
use Rattle.report_lines.specs.Pieces.{quoted}
use Rattle.tangle_model.specs.Tangled.{Tangle}
use Rattle.tangle_model.specs.declared.reason.Reason.{Reason}
use Rattle.tangle_model.specs.declared.reason.Reason.TheVariants as reason
use Rattle.tangled_names.specs.Found.{tangle_seen}
use Rattle.tangled_names.specs.declared.tangles.TangledName.{TangledName}

-- the word for a reason
abbrev pub reason_name : Reason → List ℕ
reason_name reason.BlockFunction = codes "BlockFunction"
reason_name reason.CatchVariable = codes "CatchVariable"
reason_name reason.Arguments = codes "Arguments"
reason_name reason.With = codes "With"
reason_name reason.Eval = codes "Eval"
reason_name reason.FreeNamesake = codes "FreeNamesake"
reason_name reason.MergedMember = codes "MergedMember"
reason_name reason.NamespaceNamesake = codes "NamespaceNamesake"
reason_name reason.InferredName = codes "InferredName"
reason_name reason.HiddenParameter = codes "HiddenParameter"
reason_name reason.IndexParameter = codes "IndexParameter"
reason_name reason.SloppyFunction = codes "SloppyFunction"
reason_name reason.ExportedType = codes "ExportedType"
reason_name reason.TypedVariable = codes "TypedVariable"
reason_name reason.TypedFunctionName = codes "TypedFunctionName"

abbrev pub reason_text : Reason → List ℕ
reason_text r = codes " " ++ reason_name r

abbrev pub reasons_text : List Reason → List ℕ
reasons_text rs = flat_map reason_text rs

-- a line on a name, given in UTF-8: its first symbol, and the reasons
unfoldable pub name_line : ℕ → List ℕ → List Reason → List ℕ
name_line symbol name reasons = concat (codes "tangled " ∷ decimal symbol ∷ codes " " ∷ quoted name ∷ reasons_text reasons ∷ codes "\n" ∷ [])

-- the text is one line on a name
abbrev pub IsTangleLine : List ℕ → Type 0
IsTangleLine text = (symbol : ℕ) × (name : List ℕ) × (reasons : List Reason) × (name_line symbol name reasons ≡ text)

-- the line of a tangled name
abbrev pub tangle_line : Tables → Tangle → List ℕ
tangle_line t found = name_line found.symbol (encode_utf8_all (symbol_of t found.symbol).name) found.reasons

abbrev pub seen_line : Tables → TangledName → List ℕ
seen_line t found = tangle_line t (tangle_seen found)

-- the lines of tangled names, in order
abbrev pub tangle_lines : Tables → List Tangle → List ℕ
tangle_lines t found = flat_map (tangle_line t) found
