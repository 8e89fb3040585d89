-- The steps of the walk over a program, by one recursion over its tree. Every other list is taken from these.
use Rattle.std.specs.Prelude.{ℕ, ◌+◌, suc, List, [], ◌∷◌, ◌++◌, ◌&&◌, not, cond, Option, Some, None}
use Rattle.semantic_tree.specs.Forest.{Forest, nothing, tree}
use Rattle.semantic_kinds.specs.declared.role.Role.{Role}
use Rattle.semantic_kinds.specs.declared.role.Role.TheVariants as role
use Rattle.semantic_tree.specs.declared.node.Node.{Node}
use Rattle.semantic_tree.specs.Views.{has_role}
use Rattle.semantic_syntax.specs.SourceTypes.{is_typescript_definition}
use Rattle.semantic_tree.specs.Tree.{Tree}
use Rattle.semantic_model.specs.Place.{Place, OpenScope, outside}
use Rattle.semantic_model.specs.Inside.{opens, is_inside, any_inside, header_roles, is_in_header, is_parameter_decorator, scopes_in}
use Rattle.semantic_model.specs.ScopeKind.{opened_scope}
use Rattle.semantic_model.specs.Ambient.{ambient_inside, ambient_round}
use Rattle.semantic_model.specs.Cursor.{cursor_before, cursor_behind, cursor_after, on_entering, on_leaving}

pub data Step : Type 0 where
  entering : Place → Step
  opening : Place → OpenScope → Step
  header_ending : Place → OpenScope → Step
  closing : Place → OpenScope → Step
  leaving : Place → Step

-- a node's own scope, once a child in the role is reached; so many scopes were opened before
abbrev pub scope_at : Place → Role → Option OpenScope → ℕ → Option OpenScope
scope_at p r (Some s) n = Some s
scope_at p r None n = cond (is_inside p.node.kind r) (Some (opened_scope p n)) None

-- how many scopes are opened then
abbrev pub next_at : Place → Role → Option OpenScope → ℕ → ℕ
next_at p r (Some s) n = n
next_at p r None n = cond (is_inside p.node.kind r) (suc n) n

-- the scope opens just before the first child inside
abbrev pub opening_at : Place → Role → Option OpenScope → ℕ → List Step
opening_at p r (Some s) n = []
opening_at p r None n = cond (is_inside p.node.kind r) (opening p (opened_scope p n) ∷ []) []

-- the header ends after its last part, and the scope closes after the last child inside
abbrev pub ending_after : Place → Role → Option OpenScope → Forest → List Step
ending_after p r None after = []
ending_after p r (Some s) after =
    cond (is_in_header p.node.kind r && not (has_role (header_roles p.node.kind) after)) (header_ending p s ∷ []) []
    ++ cond (is_inside p.node.kind r && not (any_inside p.node.kind after)) (closing p s ∷ []) []

-- without a child inside, the scope opens and closes after all children
abbrev pub opening_last : Place → Option OpenScope → ℕ → List Step
opening_last p (Some s) n = []
opening_last p None n = cond (opens p.node.kind) (opening p (opened_scope p n) ∷ closing p (opened_scope p n) ∷ []) []

-- the scopes in which a child inside or outside of its parent's scope stands
abbrev pub child_scopes : Place → Role → Option OpenScope → List OpenScope
child_scopes p r None = p.chain
child_scopes p r (Some s) = cond (is_inside p.node.kind r) (record s { in_header = is_in_header p.node.kind r } ∷ p.chain) p.chain

-- a child where it stands
abbrev pub child_place : Place → Option OpenScope → ℕ → Role → Node → Place
child_place p own cursor r node = record {
  source_type = p.source_type;
  role = r;
  node = node;
  chain = cond (is_parameter_decorator p.node.kind r) (outside p.chain) (child_scopes p r own);
  path = p.node ∷ p.path;
  cursor = cursor_before p.node (ambient_inside p.node p.is_ambient) r node cursor;
  is_ambient = ambient_round p.node p.is_ambient r;
}

-- the cursor after the child of a place
abbrev pub cursor_past : Place → Role → ℕ → Place → ℕ
cursor_past p r cursor child =
    cursor_behind p.node.kind r cursor
    (on_leaving child.node.kind (cursor_after child.node child.is_ambient (on_entering child.node.kind child.cursor) child.node.children))

-- the steps of the children that are left of a place: its own scope, if it is open, how many scopes were opened before, and the cursor
abbrev pub steps_below : Place → Option OpenScope → ℕ → ℕ → Forest → List Step
steps_below p own n cursor nothing = opening_last p own n
steps_below p own n cursor (tree r kind span text marks below id after) =
    let node : Node = record { kind = kind; span = span; text = text; marks = marks; children = below; node_id = id } in
    let scope : Option OpenScope = scope_at p r own n in
    let next : ℕ = next_at p r own n in
    let child : Place = child_place p scope cursor r node in
    opening_at p r own n
    ++ (entering child ∷ (steps_below child None next (on_entering kind child.cursor) below ++ leaving child ∷ []))
    ++ ending_after p r scope after
    ++ steps_below p scope (next + cond (opens kind) 1 0 + scopes_in below) (cursor_past p r cursor child) after

-- the steps of a node
abbrev pub steps_of : Place → ℕ → List Step
steps_of p n = entering p ∷ (steps_below p None n (on_entering p.node.kind p.cursor) p.node.children ++ leaving p ∷ [])

-- the place of the root
abbrev pub root_place : Tree → Place
root_place program = record {
  source_type = program.source_type;
  role = role.Root;
  node = program.root;
  chain = [];
  path = [];
  cursor = 0;
  is_ambient = is_typescript_definition program.source_type;
}

-- the steps of a program
abbrev pub steps : Tree → List Step
steps program = steps_of (root_place program) 0
