-- What holds of tables, classes, nodes and diagnostics of which a report tells all.
use Rattle.std.specs.Prelude.{◌≡◌, ℕ, ◌<◌, ◌≤◌, ◌^◌, ◌==◌, ◌||◌, not, Bool, true, List, [], ◌∷◌, Option, Some, None, IfSome, length, codes}
use Rattle.std.specs.List.{AllByRecursion}
use Rattle.std.specs.Str.{encode_utf8_all}
use Rattle.semantic_syntax.specs.declared.references.Reference.{Reference}
use Rattle.semantic_syntax.specs.declared.references.Redeclaration.{Redeclaration}
use Rattle.semantic_syntax.specs.FlagNames.{scope_flag_names, symbol_flag_names, reference_flag_names, element_kind_names}
use Rattle.semantic_syntax.specs.Tables.{Name, Scope, Symbol, Tables}
use Rattle.semantic_model.specs.Class.{PrivateUse, Class}
use Rattle.semantic_model.specs.Element.{Element}
use Rattle.semantic_model.specs.NodeTable.{NodeEntry}
use Rattle.semantic_diagnostics.specs.declared.diagnostic.Label.{Label}
use Rattle.semantic_diagnostics.specs.declared.diagnostic.Diagnostic.{Diagnostic}

-- a number that has no more digits than are written
abbrev pub IsWrittenWhole : ℕ → Type 0
IsWrittenWhole n = n < 2 ^ 64

abbrev pub AreNumbers : List ℕ → Type 0
AreNumbers = AllByRecursion IsWrittenWhole

-- no flag is set but those that have names
abbrev pub HaveNames : List (List ℕ) → ℕ → Type 0
HaveNames names bits = bits < 2 ^ length names

pub record IsTellableScope (s : Scope) : Type 0 where
  pub parent : IfSome s.parent IsWrittenWhole
  pub node : IsWrittenWhole s.node
  pub flags : HaveNames scope_flag_names s.flags.bits

pub record IsTellableEntry (e : Redeclaration) : Type 0 where
  pub declaration : IsWrittenWhole e.declaration
  pub start : IsWrittenWhole e.span.start
  pub end : IsWrittenWhole e.span.end
  pub flags : HaveNames symbol_flag_names e.flags.bits

-- a list of redeclarations is not empty
abbrev pub AreTellableEntries : Option (List Redeclaration) → Type 0
AreTellableEntries None = Unit {0}
AreTellableEntries (Some []) = ⊥
AreTellableEntries (Some (e ∷ es)) = AllByRecursion IsTellableEntry (e ∷ es)

pub record IsTellableSymbol (y : Symbol) : Type 0 where
  pub scope : IsWrittenWhole y.scope
  pub node : IsWrittenWhole y.node
  pub start : IsWrittenWhole y.span.start
  pub end : IsWrittenWhole y.span.end
  pub flags : HaveNames symbol_flag_names y.flags.bits
  pub redeclarations : AreTellableEntries y.redeclarations

pub record IsTellableReference (r : Reference) : Type 0 where
  pub node : IsWrittenWhole r.node_id
  pub scope : IsWrittenWhole r.scope_id
  pub flags : HaveNames reference_flag_names r.flags.bits
  pub symbol : IfSome r.symbol_id IsWrittenWhole

-- numbers have no more than 64 bits, all flags have names, each scope has a list of bindings and each symbol one of uses, and no list of redeclarations is empty
pub record AreTellable (t : Tables) : Type 0 where
  pub scopes_numbered : IsWrittenWhole (length t.scopes)
  pub symbols_numbered : IsWrittenWhole (length t.symbols)
  pub references_numbered : IsWrittenWhole (length t.references)
  pub with_bindings : length t.bindings ≡ length t.scopes
  pub with_uses : length t.uses ≡ length t.symbols
  pub scopes : AllByRecursion IsTellableScope t.scopes
  pub bindings : AllByRecursion (AllByRecursion (λ (b : Name × ℕ). IsWrittenWhole b.1)) t.bindings
  pub symbols : AllByRecursion IsTellableSymbol t.symbols
  pub references : AllByRecursion IsTellableReference t.references
  pub uses : AllByRecursion AreNumbers t.uses
  pub free : AllByRecursion (λ (entry : Name × List ℕ). AreNumbers entry.1) t.free
  pub pure_symbols : AreNumbers t.pure_symbols

pub record IsTellableElement (e : Element) : Type 0 where
  pub start : IsWrittenWhole e.span.start
  pub end : IsWrittenWhole e.span.end
  pub flags : HaveNames element_kind_names e.kind.bits

pub record IsTellableUse (u : PrivateUse) : Type 0 where
  pub id : IsWrittenWhole u.id
  pub start : IsWrittenWhole u.span.start
  pub end : IsWrittenWhole u.span.end
  pub element_ids : AreNumbers u.element_ids

pub record IsTellableClass (c : Class) : Type 0 where
  pub node : IsWrittenWhole c.node
  pub parent : IfSome c.parent IsWrittenWhole
  pub elements_numbered : length c.elements ≤ 2 ^ 64
  pub elements : AllByRecursion IsTellableElement c.elements
  pub uses : AllByRecursion IsTellableUse c.uses

-- numbers have no more than 64 bits, and all flags have names
pub record AreTellableClasses (classes : List Class) : Type 0 where
  pub numbered : length classes ≤ 2 ^ 64
  pub each : AllByRecursion IsTellableClass classes

-- where a node stands, and its parent
pub record IsTellableNode (entry : NodeEntry) : Type 0 where
  pub scope : IsWrittenWhole entry.scope
  pub parent : IsWrittenWhole entry.parent

-- a byte that stands in no gap between words
abbrev pub no_gap : ℕ → Bool
no_gap byte = not ((byte == 32) || (byte == 10))

-- a text that is told without quotes has no gap, and is no dash
pub record IsPlainWord (text : List ℕ) : Type 0 where
  pub no_gaps : AllByRecursion (λ byte. no_gap byte ≡ true) (encode_utf8_all text)
  pub no_dash : encode_utf8_all text ≡ codes "-" → ⊥

pub record IsTellableLabel (l : Label) : Type 0 where
  pub start : IsWrittenWhole l.span.start
  pub end : IsWrittenWhole l.span.end

pub record IsTellableDiagnostic (d : Diagnostic) : Type 0 where
  pub code : IfSome d.code IsPlainWord
  pub labels : AllByRecursion IsTellableLabel d.labels
