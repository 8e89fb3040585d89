-- Nodes of kinds where nothing happens.
use Rattle.std.proofs.Common.{◌≡◌, ℕ, Bool, true, false, ◌&&◌, ◌||◌, not, cond, List, [], ◌∷◌, Option, Some, None, option_map, refl, sym, ap, ◌∙◌}
use Rattle.semantic_kinds.specs.Classes.{holds_kind}
use Rattle.semantic_kinds.specs.Kinds.{same_kind}
use Rattle.semantic_kinds.specs.Roles.{same_role}
use Rattle.semantic_kinds.specs.declared.kind.AstType.{AstType}
use Rattle.semantic_kinds.specs.declared.kind.AstType.TheVariants as kind
use Rattle.semantic_kinds.specs.declared.mark.Mark.TheVariants as mark
use Rattle.semantic_kinds.specs.declared.role.Role.{Role}
use Rattle.semantic_kinds.specs.declared.role.Role.TheVariants as role
use Rattle.semantic_syntax.proofs.Truth.{or_false}
use Rattle.semantic_tree.specs.Forest.{Forest}
use Rattle.semantic_tree.specs.declared.node.Node.{Node}
use Rattle.semantic_model.specs.Ambient.{ambient_inside, ambient_round}
use Rattle.semantic_model.specs.Binder.{declared_by}
use Rattle.semantic_model.specs.Cursor.{cursor_before, cursor_behind, on_entering, on_leaving}
use Rattle.semantic_model.specs.Declaration.{Declaration}
use Rattle.semantic_model.specs.Inside.{Inside, no_scope_opens, holds_for, inside, opens_for, is_inside, header_roles, is_parameter_decorator}
use Rattle.semantic_tree.specs.Views.{is, has}
use Rattle.semantic_model.specs.Place.{Place, OpenScope, innermost, outside, scope_of_place}
use Rattle.semantic_model.specs.ScopeKind.{opened_scope}
use Rattle.semantic_model.specs.Step.{opening, closing, opening_at, opening_last, ending_after, scope_at, child_scopes, child_place}
use Rattle.walk_model.specs.WalkState.{WalkState}
use Rattle.walk_model.specs.Waits.{start_at}
use Rattle.walk_model.specs.Walks.{after_all}
use Rattle.walk_notes.specs.NoteLists.{is_noted, is_noted_behind}
use Rattle.semantic_walk.specs.Doings.{acts_on_entering, acts_between, is_quiet, is_passing}
use Rattle.semantic_walk.specs.AtPlace.{IsTurnAt, IsBetweenAt}
use Rattle.semantic_walk.specs.Walker.{Walker}
use Rattle.semantic_walk.specs.declared.visit.Turn.{Turn}

-- what holds in the one case or else
otherwise : {A : Type 0} (b : Bool) (x y z : A) → cond b x y ≡ z → b ≡ false → y ≡ z
otherwise b x y z e h = ap (λ c. cond c x y) (sym h) ∙ e

-- kind by kind, where nothing acts on entering: such a node is no reference and no call, declares nothing, and isn't noted

refers : (k : AstType) → cond (acts_on_entering k) false (same_kind k kind.IdentifierReference) ≡ false
refers kind.IdentifierReference = refl
refers _ = refl

calls : (k : AstType) → cond (acts_on_entering k) false (same_kind k kind.CallExpression) ≡ false
calls kind.CallExpression = refl
calls _ = refl

declares : (k : AstType) (p : Place) → cond (acts_on_entering k) [] (declared_by k p) ≡ []
declares kind.Function p = refl
declares _ p = refl

notes : (k : AstType) → cond (acts_on_entering k) false (is_noted k) ≡ false
notes kind.ClassBody = refl
notes _ = refl

module _ (k : AstType) (quiet : acts_on_entering k ≡ false) where
  pub no_reference : same_kind k kind.IdentifierReference ≡ false
  no_reference = otherwise (acts_on_entering k) false (same_kind k kind.IdentifierReference) false (refers k) quiet

  pub no_call : same_kind k kind.CallExpression ≡ false
  no_call = otherwise (acts_on_entering k) false (same_kind k kind.CallExpression) false (calls k) quiet

  pub no_names : (p : Place) → declared_by k p ≡ []
  no_names p = otherwise (acts_on_entering k) [] (declared_by k p) [] (declares k p) quiet

  pub no_note : is_noted k ≡ false
  no_note = otherwise (acts_on_entering k) false (is_noted k) false (notes k) quiet

-- and a quiet node is such a node, at which the cursor stays, and behind which nothing is noted

where_true : {A : Type 0} (b : Bool) (x y z : A) → cond b x y ≡ z → b ≡ true → x ≡ z
where_true b x y z e h = ap (λ c. cond c x y) (sym h) ∙ e

enters_quiet : (k : AstType) → cond (is_quiet k) (acts_on_entering k) false ≡ false
enters_quiet kind.IdentifierName = refl
enters_quiet _ = refl

between_quiet : (k : AstType) → cond (is_quiet k) (acts_between k) false ≡ false
between_quiet kind.IdentifierName = refl
between_quiet _ = refl

notes_quiet : (k : AstType) → cond (is_quiet k) (is_noted_behind k) false ≡ false
notes_quiet kind.IdentifierName = refl
notes_quiet _ = refl

cursor_quiet : (k : AstType) (cursor : ℕ) → cond (is_quiet k) (on_leaving k (on_entering k cursor)) cursor ≡ cursor
cursor_quiet kind.IdentifierName cursor = refl
cursor_quiet _ cursor = refl

module _ (k : AstType) (quiet : is_quiet k ≡ true) where
  pub quiet_entering : acts_on_entering k ≡ false
  quiet_entering = where_true (is_quiet k) (acts_on_entering k) false false (enters_quiet k) quiet

  pub quiet_between : acts_between k ≡ false
  quiet_between = where_true (is_quiet k) (acts_between k) false false (between_quiet k) quiet

  pub quiet_behind : is_noted_behind k ≡ false
  quiet_behind = where_true (is_quiet k) (is_noted_behind k) false false (notes_quiet k) quiet

  pub quiet_cursor : (cursor : ℕ) → on_leaving k (on_entering k cursor) ≡ cursor
  quiet_cursor cursor = where_true (is_quiet k) (on_leaving k (on_entering k cursor)) cursor cursor (cursor_quiet k cursor) quiet

-- nothing acts between the children of what is passed over

between_passing : (k : AstType) → cond (is_passing k) (acts_between k) false ≡ false
between_passing kind.IdentifierReference = refl
between_passing _ = refl

pub passing_between : (k : AstType) → is_passing k ≡ true → acts_between k ≡ false
passing_between k passing = where_true (is_passing k) (acts_between k) false false (between_passing k) passing

-- and where nothing acts round a child

scope_of : (k : AstType) → cond (acts_between k) no_scope_opens (inside k) ≡ no_scope_opens
scope_of kind.Program = refl
scope_of _ = refl

header_of : (k : AstType) → cond (acts_between k) [] (header_roles k) ≡ []
header_of kind.Function = refl
header_of _ = refl

decorates : (k : AstType) → cond (acts_between k) false (holds_kind (kind.FormalParameter ∷ kind.FormalParameterRest ∷ []) k) ≡ false
decorates kind.FormalParameter = refl
decorates _ = refl

keeps_mark : (k : AstType) → cond (acts_between k) false (holds_kind (kind.Class ∷ kind.PropertyDefinition ∷ []) k) ≡ false
keeps_mark kind.Class = refl
keeps_mark _ = refl

turns_behind : (k : AstType) (r : Role) (before behind : ℕ) → cond (acts_between k) behind (cursor_behind k r before behind) ≡ behind
turns_behind kind.Class r before behind = refl
turns_behind _ r before behind = refl

module _ (p : Place) (even : acts_between p.node.kind ≡ false) where
  no_scope : inside p.node.kind ≡ no_scope_opens
  no_scope = otherwise (acts_between p.node.kind) no_scope_opens (inside p.node.kind) no_scope_opens (scope_of p.node.kind) even

  no_header : header_roles p.node.kind ≡ []
  no_header = otherwise (acts_between p.node.kind) [] (header_roles p.node.kind) [] (header_of p.node.kind) even

  -- no scope opens behind the children
  pub none_last : (own : Option OpenScope) (n : ℕ) → opening_last p own n ≡ []
  none_last (Some s) n = refl
  none_last None n = ap (λ (i : Inside). cond (opens_for i) (opening p (opened_scope p n) ∷ closing p (opened_scope p n) ∷ []) []) no_scope

  -- behind a child nothing ends
  pub none_ends : (r : Role) (own : Option OpenScope) (f : Forest) → ending_after p r own f ≡ []
  none_ends r None f = refl
  none_ends r (Some s) f = rw (no_header, no_scope) refl

  pub keeps_cursor : (r : Role) (before behind : ℕ) → cursor_behind p.node.kind r before behind ≡ behind
  keeps_cursor r before behind = otherwise (acts_between p.node.kind) behind (cursor_behind p.node.kind r before behind) behind (turns_behind p.node.kind r before behind) even

  module _ (r : Role) (unmarked : has mark.Declare p.node ≡ false) (child : Node) (n cursor : ℕ) where
    stays_outside : is_inside p.node.kind r ≡ false
    stays_outside = ap (λ (i : Inside). holds_for i r) no_scope

    none_opens : (own : Option OpenScope) → opening_at p r own n ≡ []
    none_opens (Some s) = refl
    none_opens None = ap (λ b. cond b (opening p (opened_scope p n) ∷ []) []) stays_outside

    same_scope : (own : Option OpenScope) → scope_at p r own n ≡ own
    same_scope (Some s) = refl
    same_scope None = ap (λ b. cond b (Some (opened_scope p n)) None) stays_outside

    same_start : (own : Option OpenScope) (start : ℕ) (made : WalkState) → start_at p r own start made ≡ start
    same_start (Some s) start made = refl
    same_start None start made = rw stays_outside refl

    within_chain : (own : Option OpenScope) → child_scopes p r own ≡ p.chain
    within_chain None = refl
    within_chain (Some s) = rw stays_outside refl

    no_decorator : is_parameter_decorator p.node.kind r ≡ false
    no_decorator = ap (λ b. b && same_role r role.Decorators)
        (otherwise (acts_between p.node.kind) false (holds_kind (kind.FormalParameter ∷ kind.FormalParameterRest ∷ []) p.node.kind) false (decorates p.node.kind) even)

    same_chain : (own : Option OpenScope) → (child_place p own cursor r child).chain ≡ p.chain
    same_chain own = ap (λ b. cond b (outside p.chain) (child_scopes p r own)) no_decorator ∙ within_chain own

    ambient_there : (around : Bool) → ambient_inside p.node around ≡ around
    ambient_there around = ap (λ b. around || (b && not (is kind.AccessorProperty p.node))) unmarked ∙ or_false around

    same_ambient : ambient_round p.node p.is_ambient r ≡ p.is_ambient
    same_ambient =
        ap (λ b. cond (b && same_role r role.Decorators) p.is_ambient (ambient_inside p.node p.is_ambient))
        (otherwise (acts_between p.node.kind) false (holds_kind (kind.Class ∷ kind.PropertyDefinition ∷ []) p.node.kind) false (keeps_mark p.node.kind) even)
        ∙ ambient_there p.is_ambient

    same_cursor : (w : Walker) → w.cursor ≡ cursor → w.is_ambient ≡ p.is_ambient → cursor_before p.node w.is_ambient r child w.cursor ≡ cursor_before p.node (ambient_inside p.node p.is_ambient) r child cursor
    same_cursor w flags around = λ i. cursor_before p.node ((around ∙ sym (ambient_there p.is_ambient)) i) r child (flags i)

    -- so a walk that turns its cursor to that of the child has come to it
    pub comes_even : (ds : List Declaration) (w v : Walker) (turn : Turn) (own : Option OpenScope) (start : ℕ) (f : Forest) → IsBetweenAt ds w turn p own n cursor start f
        → v ≡ record w { cursor = cursor_before p.node w.is_ambient r child w.cursor }
        → let place = child_place p (scope_at p r own n) cursor r child in
        (v ≡ record w { made = after_all ds w.made (opening_at p r own n); current = scope_of_place place; cursor = place.cursor; is_ambient = place.is_ambient })
        × IsTurnAt turn p (scope_at p r own n) (start_at p r own start w.made)
    comes_even ds w v turn own start f h e =
        let here : w.current ≡ scope_of_place (child_place p (scope_at p r own n) cursor r child) =
        h.within.current ∙ sym (ap (λ (chain : List OpenScope). (innermost chain).number) (same_chain (scope_at p r own n))) in (
          e
              ∙ (λ i. record w {
                made = after_all ds w.made (sym (none_opens own) i);
                current = here i;
                cursor = same_cursor w h.flags h.is_ambient i;
                is_ambient = (h.is_ambient ∙ sym same_ambient) i;
              }),
          record {
            outer = h.stands.outer;
            is_ambient = h.stands.is_ambient;
            own_scope = h.stands.own_scope ∙ ap (λ (o : Option OpenScope). option_map (λ s. s.number) o) (sym (same_scope own));
            header = h.stands.header ∙ sym (same_start own start w.made);
            doings = h.stands.doings;
          },
        )

-- and behind one the walk stands in the node again
pub ends_even : (ds : List Declaration) (w : Walker) (p : Place) (own : Option OpenScope) (before : ℕ) (r : Role) (f : Forest)
    → acts_between p.node.kind ≡ false → w.current ≡ scope_of_place p → w.is_ambient ≡ p.is_ambient
    → w ≡ record w { made = after_all ds w.made (ending_after p r own f); current = scope_of_place p; cursor = cursor_behind p.node.kind r before w.cursor; is_ambient = p.is_ambient }
ends_even ds w p own before r f even here around = λ i. record w {
  made = after_all ds w.made (sym (none_ends p even r own f) i);
  current = here i;
  cursor = sym (keeps_cursor p even r before w.cursor) i;
  is_ambient = around i;
}
