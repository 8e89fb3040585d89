-- What it means that tables fit a program.
use Rattle.std.specs.Prelude.{◌≡◌, ◌<◌, ℕ, ◌+◌, List, [], ◌∷◌, ◌++◌, true, false, Option, Some, None, ◌⊎◌, length, map, codes, bytes_eq, slice_get}
use Rattle.semantic_syntax.specs.declared.references.Reference.{Reference}
use Rattle.semantic_syntax.specs.Tables.{Name, Tables, Scope, Symbol}
use Rattle.semantic_syntax.specs.Reading.{bound_in}
use Rattle.semantic_tree.specs.Tree.{Tree}
use Rattle.semantic_model.specs.Place.{OpenScope, innermost}
use Rattle.semantic_model.specs.Step.{steps}
use Rattle.semantic_model.specs.Reference.{Occurrence, references}
use Rattle.semantic_model.specs.Declaration.{Declaration, Meets, home, path}
use Rattle.semantic_syntax.specs.Members.{contains}
use Rattle.semantic_model.specs.Event.{events, declarations}
use Rattle.semantic_model.specs.FreeNames.{free_references}
use Rattle.semantic_model.specs.TablesOf.{scopes}
use Rattle.semantic_model.specs.Fold.{new_symbol}
use Rattle.semantic_model.specs.NodeTable.{Belongs, NodeTables}
use Rattle.semantic_model.specs.Outward.{first_outward}
use Rattle.semantic_model.specs.Entries.{times, times_in_all, or_empty, Among}

-- a scope without its flags
pub record Frame : Type 0 where
  pub parent : Option ℕ
  pub node : ℕ

abbrev pub frame_of : Scope → Frame
frame_of s = record { parent = s.parent; node = s.node }

-- a reference without its symbol
pub record Stand : Type 0 where
  pub node : ℕ
  pub scope : ℕ

abbrev pub stand_of : Reference → Stand
stand_of r = record { node = r.node_id; scope = r.scope_id }

abbrev pub stand_in_tree : Occurrence → Stand
stand_in_tree r = record { node = r.node; scope = (innermost r.chain).number }

-- a reference of the name stands in the use list of its symbol, which has that name, or in the free list of the name
abbrev pub StandsUnder : Tables → ℕ → Name → Option ℕ → Type 0
StandsUnder t n x None = times n (free_references t.free x) ≡ 1
StandsUnder t n x (Some s) = (times n (or_empty (slice_get t.uses s)) ≡ 1) × ((y : Symbol) → slice_get t.symbols s ≡ Some y → y.name ≡ x)

-- each reference stands once in all lists together, under its symbol or its name, and nothing else stands there
pub record StandOnce (t : Tables) (rs : List Occurrence) : Type 0 where
  pub same : map stand_of t.references ≡ map stand_in_tree rs
  pub once : (n : ℕ) → n < length rs → times_in_all n t.uses + times_in_all n (map (λ f. f.1) t.free) ≡ 1
  pub under : (n : ℕ) (r : Occurrence) (e : Reference) → slice_get rs n ≡ Some r → slice_get t.references n ≡ Some e → StandsUnder t n r.name e.symbol_id
  pub nothing_else : (n : ℕ) → 0 < times_in_all n t.uses + times_in_all n (map (λ f. f.1) t.free) → n < length rs

abbrev pub InNoHeader : List OpenScope → Type 0
InNoHeader [] = Unit {0}
InNoHeader (s ∷ ss) = (s.in_header ≡ false) × InNoHeader ss

-- a reference that no header holds, and that isn't called `arguments`, has the first usable binding outward
pub record TieOutward (t : Tables) (rs : List Occurrence) : Type 0 where
  pub tied : (n : ℕ) (r : Occurrence) (e : Reference) → slice_get rs n ≡ Some r → slice_get t.references n ≡ Some e → InNoHeader r.chain → bytes_eq r.name (codes "arguments") ≡ false → e.symbol_id ≡ first_outward t (map (λ s. s.number) r.chain) r.name r.way

-- a declaration of the list that meets no other
pub record MeetsNoOther (ds : List Declaration) (d : Declaration) : Type 0 where
  pub before : List Declaration
  pub after : List Declaration
  pub stands : ds ≡ before ++ d ∷ after
  pub apart : (e : Declaration) → Among e before ⊎ Among e after → Meets d e → ⊥

-- what a declaration that meets no other has: a symbol that belongs to it alone, with its name, span, node and flags, in its home, which alone binds it
pub record OwnSymbol (t : Tables) (belongs : List Belongs) (d : Declaration) (s : ℕ) : Type 0 where
  pub is : Among (record { node = d.naming.identifier; number = s }) belongs
  pub alone : times s (map (λ b. b.number) belongs) ≡ 1
  pub symbol : slice_get t.symbols s ≡ Some (new_symbol (home d) d.naming)
  pub binds : bound_in t (home d) d.naming.name ≡ Some s
  pub only : (c : ℕ) (x : Name) → bound_in t c x ≡ Some s → (c ≡ home d) × (x ≡ d.naming.name)

-- a declaration of the name with the scope on its path
pub record DeclaredOn (ds : List Declaration) (c : ℕ) (x : Name) : Type 0 where
  pub declaration : Declaration
  pub among : Among declaration ds
  pub named : declaration.naming.name ≡ x
  pub on_path : contains (path declaration) c ≡ true

-- a declaration of the name, whose symbol it is
pub record DeclaredAs (belongs : List Belongs) (ds : List Declaration) (s : ℕ) (x : Name) : Type 0 where
  pub declaration : Declaration
  pub among : Among declaration ds
  pub named : declaration.naming.name ≡ x
  pub is : Among (record { node = declaration.naming.identifier; number = s }) belongs

-- no binding and no symbol is invented
pub record AreDeclared (t : Tables) (belongs : List Belongs) (ds : List Declaration) : Type 0 where
  pub bindings : (c : ℕ) (x : Name) (s : ℕ) → bound_in t c x ≡ Some s → DeclaredOn ds c x
  pub symbols : (s : ℕ) (y : Symbol) → slice_get t.symbols s ≡ Some y → DeclaredAs belongs ds s y.name

-- the tables fit the program; what belongs to the nodes tells the symbol of each declaration
pub record Fits (program : Tree) (t : Tables) (nodes : NodeTables) : Type 0 where
  pub scopes_are_the_trees : map frame_of t.scopes ≡ map frame_of (scopes (steps program))
  pub references_stand_once : StandOnce t (references (steps program))
  pub references_tie_outward : TieOutward t (references (steps program))
  pub lone_declarations_have_their_symbol : (d : Declaration) → MeetsNoOther (declarations (events (steps program))) d → (s : ℕ) × OwnSymbol t nodes.symbols d s
  pub nothing_is_invented : AreDeclared t nodes.symbols (declarations (events (steps program)))
