-- A declaration that goes out as `var` does excludes what `var`s exclude.
use Rattle.std.proofs.Common.{◌≡◌, List, [], ◌∷◌, ◌++◌, Bool, true, false, cond, if◌then◌else◌, refl, sym, subst, map, flat_map, codes}
use Rattle.semantic_kinds.specs.Kinds.{same_kind}
use Rattle.semantic_kinds.specs.declared.kind.AstType.{AstType}
use Rattle.semantic_kinds.specs.declared.kind.AstType.TheVariants as kind
use Rattle.semantic_syntax.specs.declared.symbol_flags.TheConstants.SymbolFlags as symbol
use Rattle.semantic_tree.specs.Tree.{Tree}
use Rattle.semantic_tree.specs.Views.{is_with_text}
use Rattle.semantic_tree.specs.declared.node.Node.{Node}
use Rattle.semantic_model.specs.Binder.{BinderRow, declaration_at, declared_by, declared_on_entering, declared_on_opening, is_pure_declarator, variable_row, variables_under}
use Rattle.semantic_model.specs.Declaration.{How, plain, hoisted, moved, caught, Declaration, Route}
use Rattle.semantic_model.specs.Event.{Event, declares, takes_over, ends_header, is_barred, staying_declaration, placed_by, is_catch_body, taken_over, declares_all, events_of, events, written_declarations}
use Rattle.semantic_model.specs.Names.{bound_names}
use Rattle.semantic_model.specs.Place.{Place, OpenScope, innermost, outside}
use Rattle.semantic_model.specs.Step.{Step, entering, opening, header_ending, closing, leaving, steps}
use Rattle.semantic_model.proofs.form.Clauses.{kind_is}
use Rattle.semantic_model.proofs.fold.EachDeclared.{EachDeclared, HoldRoutes, each_on_entering, each_on_opening}
use Rattle.renaming_laws.proofs.FlagsHeld.{IsVarRow}
use Rattle.renaming_laws.proofs.SameConflicts.{AreVarRows}

abbrev AllVarRows : List Declaration → Type 0
AllVarRows ds = EachDeclared IsVarRow ds

-- ---- rows of other declarations

abbrev IsOther : How → Route → Type 0
IsOther how route = how ≡ hoisted → ⊥

other_row : (node : Node) (row : BinderRow) (is_pure : Bool) (name : Node) → IsOther row.how row.route → IsVarRow (declaration_at node row is_pure name)
other_row node row is_pure name h e = absurd (h e)

not_plain : plain ≡ hoisted → ⊥
not_plain e = cc

not_caught : caught ≡ hoisted → ⊥
not_caught e = cc

not_moved : moved ≡ hoisted → ⊥
not_moved e = cc

others : (k : AstType) (p : Place) → (k ≡ kind.VariableDeclarator → ⊥) → HoldRoutes IsVarRow IsOther other_row k p
others k p h = record {
  at_home = not_plain;
  when_caught = not_caught;
  when_hoisted = λ e. absurd (h e);
  when_moved = λ e i j. not_moved;
  when_inferred = not_plain;
}

-- ---- rows of variables

var_rows : (node : Node) (row : BinderRow) (is_pure : Bool) (names : List Node) → (row.how ≡ hoisted → row.excluded ≡ symbol.FunctionScopedVariableExcludes.bits) → AllVarRows (map (declaration_at node row is_pure) names)
var_rows node row is_pure [] h = tt
var_rows node row is_pure (x ∷ xs) h = (h, var_rows node row is_pure xs h)

variable_excludes : (declaration : Node) (chain : List OpenScope) → (variable_row declaration chain).how ≡ hoisted → (variable_row declaration chain).excluded ≡ symbol.FunctionScopedVariableExcludes.bits
variable_excludes declaration chain = go (is_with_text kind.VariableDeclaration (codes "var") declaration) refl
  where
    go : (b : Bool) → is_with_text kind.VariableDeclaration (codes "var") declaration ≡ b → (variable_row declaration chain).how ≡ hoisted → (variable_row declaration chain).excluded ≡ symbol.FunctionScopedVariableExcludes.bits
    go true e h = rw e refl
    go false e h = absurd (not_plain (rw e at h))

variables : (p : Place) (path : List Node) → AllVarRows (variables_under path p)
variables p [] = tt
variables p (declaration ∷ path) = var_rows p.node (variable_row declaration p.chain) (is_pure_declarator p.node) (bound_names p.node) (variable_excludes declaration p.chain)

no_variable : (k : AstType) → same_kind k kind.VariableDeclarator ≡ false → k ≡ kind.VariableDeclarator → ⊥
no_variable k h e = differ (rw e at h)
  where
    differ : true ≡ false → ⊥
    differ q = cc

entering_rows : (k : AstType) (p : Place) → AllVarRows (declared_by k p)
entering_rows k p = go (same_kind k kind.VariableDeclarator) refl
  where
    go : (b : Bool) → same_kind k kind.VariableDeclarator ≡ b → AllVarRows (declared_by k p)
    go true e = subst (λ j. AllVarRows (declared_by j p)) (sym (kind_is k kind.VariableDeclarator e)) (variables p p.path)
    go false e = each_on_entering IsVarRow IsOther other_row k p (others k p (no_variable k e))

opening_rows : (p : Place) (own : OpenScope) → AllVarRows (declared_on_opening p own)
opening_rows p own = each_on_opening IsVarRow IsOther other_row p.node.kind p own (λ e. not_plain)

-- ---- events

placed_row : (how : How) (ds : List Declaration) (d : Declaration) → IsVarRow d → IsVarRow (placed_by how ds d)
placed_row plain ds d h = h
placed_row hoisted ds d h = h
placed_row caught ds d h = h
placed_row moved ds d h = go (is_barred ds d (outside d.route.passed))
  where
    go : (b : Bool) → IsVarRow (if b then staying_declaration d else d)
    go true = λ e. absurd (not_plain e)
    go false = h

all_rows : (ds new : List Declaration) → AllVarRows new → AreVarRows (declares_all ds new)
all_rows ds [] h = tt
all_rows ds (d ∷ new) h = (placed_row d.how ds d h.0, all_rows ds new h.1)

append_rows : (es fs : List Event) → AreVarRows es → AreVarRows fs → AreVarRows (es ++ fs)
append_rows [] fs h k = k
append_rows (declares d ∷ es) fs h k = (h.0, append_rows es fs h.1 k)
append_rows (takes_over c b ∷ es) fs h k = append_rows es fs h k
append_rows (ends_header c ∷ es) fs h k = append_rows es fs h k

taken_rows : (p : Place) (s : OpenScope) → AreVarRows (taken_over p s)
taken_rows p s = go (is_catch_body p)
  where
    go : (b : Bool) → AreVarRows (cond b (takes_over (innermost p.chain).number s.number ∷ []) [])
    go true = tt
    go false = tt

step_rows : (ds : List Declaration) (s : Step) → AreVarRows (events_of ds s)
step_rows ds (entering p) = all_rows ds (declared_on_entering p) (entering_rows p.node.kind p)
step_rows ds (opening p s) = append_rows (taken_over p s) (declares_all ds (declared_on_opening p s)) (taken_rows p s) (all_rows ds (declared_on_opening p s) (opening_rows p s))
step_rows ds (header_ending p s) = tt
step_rows ds (closing p s) = tt
step_rows ds (leaving p) = tt

all_step_rows : (ds : List Declaration) (ss : List Step) → AreVarRows (flat_map (events_of ds) ss)
all_step_rows ds [] = tt
all_step_rows ds (s ∷ ss) = append_rows (events_of ds s) (flat_map (events_of ds) ss) (step_rows ds s) (all_step_rows ds ss)

pub program_rows : (p : Tree) → AreVarRows (events (steps p))
program_rows p = all_step_rows (written_declarations (steps p)) (steps p)
