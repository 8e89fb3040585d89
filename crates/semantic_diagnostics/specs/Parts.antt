-- The parts of a diagnostic.
use Rattle.std.specs.Prelude.{ℕ, List, [], ◌∷◌, Some, None, codes}
use Rattle.std.specs.List.{concat}
use Rattle.semantic_syntax.specs.declared.spans.Span.{Span}
use Rattle.semantic_diagnostics.specs.declared.diagnostic.Label.{Label}
use Rattle.semantic_diagnostics.specs.declared.diagnostic.Diagnostic.{Diagnostic}

-- a place of which nothing is said
abbrev pub bare_label : Span → Label
bare_label span = record { span = span; text = None }

-- a place of which something is said
abbrev pub said_at : Span → List ℕ → Label
said_at span text = record { span = span; text = Some text }

-- a message with labels, without code, help and note
abbrev pub labelled : List ℕ → List Label → Diagnostic
labelled message labels = record { code = None; message = message; labels = labels; help = None; note = None }

-- a message at one place, without code, help and note
abbrev pub plain : List ℕ → Span → Diagnostic
plain message span = labelled message (bare_label span ∷ [])

-- with a help
abbrev pub helped : List ℕ → Diagnostic → Diagnostic
helped help d = record d { help = Some help }

-- with a note
abbrev pub noted_with : List ℕ → Diagnostic → Diagnostic
noted_with note d = record d { note = Some note }

-- with a code of TypeScript
abbrev pub coded : List ℕ → Diagnostic → Diagnostic
coded code d = record d { code = Some code }

-- a message on a name that is declared at two places; the opening stands in front of the name
abbrev pub redeclaration_message : List ℕ → List ℕ → List ℕ → Span → Span → Diagnostic
redeclaration_message message opening name first second =
    labelled message
    (said_at first (concat (opening ∷ name ∷ codes "` has already been declared here" ∷ []))
    ∷ said_at second (codes "It can not be redeclared here") ∷ [])
