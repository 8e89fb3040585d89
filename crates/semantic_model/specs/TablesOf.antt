-- The tables of a program.
use Rattle.std.specs.Prelude.{ℕ, ◌==◌, List, [], ◌∷◌, Bool, false, not, ◌&&◌, ◌||◌, Option, Some, None, cond, length, map, filter, filter_map, fold, codes}
use Rattle.std.specs.List.{range_with_len}
use Rattle.semantic_kinds.specs.declared.kind.AstType.TheVariants as kind
use Rattle.semantic_kinds.specs.declared.role.Role.TheVariants as role
use Rattle.semantic_kinds.specs.declared.mark.Mark.TheVariants as mark
use Rattle.semantic_tree.specs.declared.node.Node.{Node}
use Rattle.semantic_syntax.specs.declared.scope_flags.TheConstants.ScopeFlags as scope
use Rattle.semantic_syntax.specs.Sets.{union}
use Rattle.semantic_syntax.specs.declared.references.Reference.{Reference}
use Rattle.semantic_syntax.specs.Tables.{Tables, Scope, Bindings, FreeLists}
use Rattle.semantic_model.specs.FreeNames.{add_free}
use Rattle.semantic_tree.specs.Views.{is, has, has_text, child_of, holds}
use Rattle.semantic_tree.specs.Unwrapped.{inner_expression}
use Rattle.semantic_tree.specs.Tree.{Tree}
use Rattle.semantic_model.specs.Place.{OpenScope, innermost}
use Rattle.semantic_model.specs.Step.{Step, entering, opening, steps}
use Rattle.semantic_model.specs.Reference.{references}
use Rattle.semantic_syntax.specs.Members.{contains}
use Rattle.semantic_model.specs.Binding.{Binding, bound_by}
use Rattle.semantic_model.specs.Event.{Event, events}
use Rattle.semantic_model.specs.Fold.{State, Made, start}
use Rattle.semantic_model.specs.Hoist.{run}
use Rattle.semantic_model.specs.Tie.{Tie, ties, in_order, tied_symbol, final_flags}

-- a plain call of `eval`
abbrev pub is_direct_eval : Node → Bool
is_direct_eval node =
    is kind.CallExpression node && not (has mark.Optional node)
    && holds (λ callee. is kind.IdentifierReference (inner_expression callee) && has_text (codes "eval") (inner_expression callee)) (child_of role.Callee node)

-- the numbers of scopes
abbrev pub numbers : List OpenScope → List ℕ
numbers chain = map (λ s. s.number) chain

abbrev pub eval_in : Step → Option (List ℕ)
eval_in (entering p) = cond (is_direct_eval p.node) (Some (numbers p.chain)) None
eval_in _ = None

-- the scopes of each such call
abbrev pub evals : List Step → List (List ℕ)
evals steps = filter_map eval_in steps

abbrev pub any_holds : List (List ℕ) → ℕ → Bool
any_holds [] c = false
any_holds (cs ∷ css) c = contains cs c || any_holds css c

abbrev parent_number : List OpenScope → Option ℕ
parent_number [] = None
parent_number (s ∷ ss) = Some s.number

-- a scope has `DirectEval` where such a call stands in it or below
abbrev pub opened_entry : List (List ℕ) → Step → Option Scope
opened_entry calls (opening p s) = Some (record {
  parent = parent_number p.chain;
  node = s.opener;
  flags = record { bits = union s.flags (cond (any_holds calls s.number) scope.DirectEval.bits 0) };
})
opened_entry calls _ = None

-- the scopes in order of opening
abbrev pub scopes : List Step → List Scope
scopes steps = let calls : List (List ℕ) = evals steps in filter_map (opened_entry calls) steps

abbrev pub entry_of : Tie → Reference
entry_of t = record {
  node_id = t.reference.node;
  scope_id = (innermost t.reference.chain).number;
  flags = record { bits = final_flags t };
  symbol_id = tied_symbol t;
}

abbrev pub is_symbol : ℕ → Option ℕ → Bool
is_symbol s None = false
is_symbol s (Some r) = r == s

-- the references that are tied to symbol s, of ties in order
abbrev pub uses_of : List Tie → ℕ → List ℕ
uses_of ts s = map (λ t. t.number) (filter (λ t. is_symbol s (tied_symbol t)) ts)

abbrev pub with_tie : FreeLists → Tie → FreeLists
with_tie free t = elim (tied_symbol t) [ None ↦ add_free free t.reference.name t.number | Some s ↦ free ]

-- the free references by name, of ties in order
abbrev pub free_of : List Tie → FreeLists
free_of ts = fold with_tie [] ts

abbrev pub any_pure : List Made → ℕ → Bool
any_pure [] s = false
any_pure (m ∷ ms) s = (m.declaration.naming.is_pure && m.symbol == s) || any_pure ms s

-- the symbols with a declaration of a function without side effects, ascending
abbrev pub pure_of : State → List ℕ
pure_of st = filter (any_pure st.made) (range_with_len 0 (length st.symbols))

abbrev pub bindings_of : List Binding → ℕ → List Bindings
bindings_of bs count = map (bound_by bs) (range_with_len 0 count)

abbrev pub tables_from : List Scope → State → List Tie → List Tie → Tables
tables_from opened st ts ordered = record {
  scopes = opened;
  bindings = bindings_of st.bindings (length opened);
  symbols = st.symbols;
  references = map entry_of ts;
  uses = map (uses_of ordered) (range_with_len 0 (length st.symbols));
  free = free_of ordered;
  pure_symbols = pure_of st;
}

-- the declarations of a program in order, each with its symbol
abbrev pub made_of : Tree → List Made
made_of program = (run start (events (steps program))).made

-- the tables of the steps of a program
abbrev pub tables_by : List Step → Tables
tables_by walk =
    let es : List Event = events walk in
    let final : State = run start es in
    let ts : List Tie = ties final es 0 (references walk) in
    tables_from (scopes walk) final ts (in_order es ts)

-- the tables of a program
abbrev pub tables_of : Tree → Tables
tables_of program = tables_by (steps program)
