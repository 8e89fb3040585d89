-- Short words for trees and diagnostics.
use Rattle.std.specs.Prelude.{ℕ, List, [], Option}
use Rattle.semantic_syntax.specs.declared.source_type.Goal.{Goal}
use Rattle.semantic_syntax.specs.declared.source_type.Lang.{Lang}
use Rattle.semantic_kinds.specs.declared.kind.AstType.{AstType}
use Rattle.semantic_kinds.specs.declared.kind.AstType.TheVariants as kind
use Rattle.semantic_kinds.specs.declared.role.Role.{Role}
use Rattle.semantic_tree.specs.Forest.{Forest, tree}
use Rattle.semantic_tree.specs.Tree.{Tree}
use Rattle.semantic_diagnostics.specs.declared.diagnostic.Label.{Label}
use Rattle.semantic_diagnostics.specs.declared.diagnostic.Diagnostic.{Diagnostic}

-- a node: role, kind, span, text, bits of marks, id; what is below it, and what stands after it
abbrev pub node : Role → AstType → ℕ → ℕ → List ℕ → ℕ → ℕ → Forest → Forest → Forest
node r k start stop text marks id below after = tree r k (record { start = start; end = stop }) text (record { bits = marks }) below id after

-- a program of such nodes, with its source and the span of the root
abbrev pub program : Goal → Lang → List ℕ → ℕ → ℕ → Forest → Tree
program g l source start stop below = record {
  source = source;
  source_type = record { goal = g; lang = l };
  comments = [];
  root = record { kind = kind.Program; span = record { start = start; end = stop }; text = []; marks = record { bits = 0 }; children = below; node_id = 0 };
}

-- a label of a diagnostic
abbrev pub label_at : ℕ → ℕ → Option (List ℕ) → Label
label_at start stop text = record { span = record { start = start; end = stop }; text = text }

-- a diagnostic: code, message, labels, help and note
abbrev pub says : Option (List ℕ) → List ℕ → List Label → Option (List ℕ) → Option (List ℕ) → Diagnostic
says code message labels help note = record { code = code; message = message; labels = labels; help = help; note = note }
