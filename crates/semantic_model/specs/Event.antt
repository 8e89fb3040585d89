-- The events of a program: what is declared, where a catch clause's names move to its body, and where headers end.
use Rattle.std.specs.Prelude.{ℕ, ◌==◌, List, [], ◌∷◌, ◌++◌, Bool, false, ◌&&◌, ◌||◌, if◌then◌else◌, cond, map, flat_map, bytes_eq}
use Rattle.semantic_kinds.specs.declared.kind.AstType.TheVariants as kind
use Rattle.semantic_kinds.specs.declared.role.Role.TheVariants as role
use Rattle.semantic_kinds.specs.Roles.{same_role}
use Rattle.semantic_syntax.specs.declared.symbol_flags.TheConstants.SymbolFlags as symbol
use Rattle.semantic_syntax.specs.Sets.{meets}
use Rattle.semantic_tree.specs.Views.{is}
use Rattle.semantic_model.specs.Place.{Place, OpenScope, innermost, outside, parent_holds}
use Rattle.semantic_model.specs.Step.{Step, entering, opening, header_ending}
use Rattle.semantic_model.specs.Declaration.{How, plain, moved, Declaration, scope_it_stands_in, stands_in}
use Rattle.semantic_model.specs.Binder.{declared_on_entering, declared_on_opening}

-- what a step declares, before it is known which block functions stay
abbrev pub declared_at : Step → List Declaration
declared_at (entering p) = declared_on_entering p
declared_at (opening p s) = declared_on_opening p s
declared_at _ = []

abbrev pub written_declarations : List Step → List Declaration
written_declarations steps = flat_map declared_at steps

-- whether the declaration is one past which a block function of its name doesn't move: lexical, of a class or of a function
abbrev pub counts_past : Declaration → Bool
counts_past e = meets e.naming.flags symbol.BlockScopedVariable.bits || meets e.naming.flags symbol.Class.bits || meets e.naming.flags symbol.Function.bits

-- whether a declaration in the scope is a namesake past which a block function doesn't move
abbrev pub bars : Declaration → OpenScope → Declaration → Bool
bars d c e = counts_past e && stands_in e == c.number && bytes_eq e.naming.name d.naming.name

abbrev pub any_bars : Declaration → OpenScope → List Declaration → Bool
any_bars d c [] = false
any_bars d c (e ∷ es) = bars d c e || any_bars d c es

-- whether one does in one of the scopes, wherever in the program it is written
abbrev pub is_barred : List Declaration → Declaration → List OpenScope → Bool
is_barred ds d [] = false
is_barred ds d (c ∷ cs) = any_bars d c ds || is_barred ds d cs

abbrev pub staying_declaration : Declaration → Declaration
staying_declaration d = record d { how = plain; route = record { passed = []; target = scope_it_stands_in d } }

abbrev pub placed_by : How → List Declaration → Declaration → Declaration
placed_by moved ds d = if is_barred ds d (outside d.route.passed) then staying_declaration d else d
placed_by _ ds d = d

-- a block function stays where a namesake stands strictly between it and its target
abbrev pub placed : List Declaration → Declaration → Declaration
placed ds d = placed_by d.how ds d

pub data Event : Type 0 where
  declares : Declaration → Event
  -- the body of a catch clause takes over what the clause binds
  takes_over : (clause body : ℕ) → Event
  -- the header of the scope ends
  ends_header : ℕ → Event

-- a block that is the body of a catch clause takes over what the clause's scope binds
abbrev pub is_catch_body : Place → Bool
is_catch_body p = is kind.BlockStatement p.node && same_role p.role role.Body && parent_holds (is kind.CatchClause) p.path

abbrev pub taken_over : Place → OpenScope → List Event
taken_over p s = cond (is_catch_body p) (takes_over (innermost p.chain).number s.number ∷ []) []

abbrev pub declares_all : List Declaration → List Declaration → List Event
declares_all ds new = map (λ d. declares (placed ds d)) new

-- the events of a step, among the written declarations of the program
abbrev pub events_of : List Declaration → Step → List Event
events_of ds (entering p) = declares_all ds (declared_on_entering p)
events_of ds (opening p s) = taken_over p s ++ declares_all ds (declared_on_opening p s)
events_of ds (header_ending p s) = ends_header s.number ∷ []
events_of ds _ = []

abbrev pub events : List Step → List Event
events steps = let ds : List Declaration = written_declarations steps in flat_map (events_of ds) steps

abbrev pub declared : Event → List Declaration
declared (declares d) = d ∷ []
declared _ = []

-- the declarations of a program, with their homes and paths
abbrev pub declarations : List Event → List Declaration
declarations es = flat_map declared es
