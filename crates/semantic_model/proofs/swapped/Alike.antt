-- Trees that differ in names alone: each name is changed by one map.
use Rattle.std.proofs.Common.{◌≡◌, ℕ, List, [], ◌∷◌, ◌++◌, cond, Bool, true, false, ◌&&◌, ◌||◌, inl, inr, ◌⊎◌, refl, sym, ap, subst, ◌∙◌, map, if◌then◌else◌}
use Rattle.std.proofs.lemmas.Bool.{cases_Bool, and_from}
use Rattle.std.specs.Prelude.{flat_map, filter}
use Rattle.semantic_syntax.specs.declared.spans.Span.{Span}
use Rattle.semantic_syntax.specs.Tables.{Name}
use Rattle.semantic_tree.specs.Forest.{Forest, nothing, tree}
use Rattle.semantic_tree.specs.Renamed.{names_member, setting_below, renamed_text, renamed}
use Rattle.semantic_tree.specs.declared.node.Node.{Node}
use Rattle.semantic_tree.specs.declared.swap.Setting.{Setting}
use Rattle.semantic_tree.specs.declared.swap.Setting.TheVariants.{InMember, InMemberName, Elsewhere}
use Rattle.semantic_kinds.specs.Kinds.{same_kind}
use Rattle.semantic_kinds.specs.Roles.{same_role}
use Rattle.semantic_kinds.specs.Classes.{holds_kind}
use Rattle.semantic_kinds.specs.declared.marks.Marks.{Marks}
use Rattle.semantic_kinds.specs.declared.kind.AstType.{AstType}
use Rattle.semantic_kinds.specs.declared.kind.AstType.TheVariants as kind
use Rattle.semantic_kinds.specs.declared.role.Role.{Role}
use Rattle.semantic_kinds.specs.declared.role.Role.TheVariants as role
use Rattle.semantic_tree.specs.Views.{is, children_of}
use Rattle.semantic_model.specs.Binder.{member_names}
use Rattle.semantic_model.proofs.form.Clauses.{kind_is}

-- the text is a name of the program
abbrev pub is_name : AstType → Bool
is_name k = same_kind k kind.BindingIdentifier || same_kind k kind.IdentifierReference

-- the text names an enum member, in some places
abbrev pub may_name : AstType → Bool
may_name k = same_kind k kind.IdentifierName || same_kind k kind.StringLiteral || same_kind k kind.TemplateElement

-- what the ids of an enum member name, each with its span
abbrev pub labels_in : Node → List (Name × Span)
labels_in id = map (λ name. (name.text, id.span)) (member_names id)

abbrev pub labels : Forest → List (Name × Span)
labels below = flat_map labels_in (children_of role.Id below)

pub map_append : {A B : Type 0} → (g : A → B) (xs ys : List A) → map g (xs ++ ys) ≡ map g xs ++ map g ys
map_append g [] ys = refl
map_append g (x ∷ xs) ys = ap (λ zs. g x ∷ zs) (map_append g xs ys)

module _ (f : Name → Name) where
  -- a changed name, or the same text
  pub record TextFor (k : AstType) (t u : Name) : Type 0 where
    pub named : is_name k ≡ true → u ≡ f t
    pub plain : is_name k ≡ false → may_name k ≡ false → u ≡ t

  abbrev pub changed : Name × Span → Name × Span
  changed l = (f l.0, l.1)

  -- an enum member names what it named, changed
  abbrev pub MembersFor : AstType → Forest → Forest → Type 0
  MembersFor k below below' = same_kind k kind.TSEnumMember ≡ true → labels below' ≡ map changed (labels below)

  pub data Alike : Forest → Forest → Type 0 where
    no_trees : Alike nothing nothing
    trees_alike : (r : Role) (k : AstType) (span : Span) (t u : Name) (marks : Marks) (below below' : Forest) (id : ℕ) (after after' : Forest) → TextFor k t u → MembersFor k below below' → Alike below below' → Alike after after' → Alike (tree r k span t marks below id after) (tree r k span u marks below' id after')

  -- what may be renamed under a member may name it
  member_may : (setting : Setting) (r : Role) (k : AstType) → may_name k ≡ false → names_member setting r k ≡ false
  member_may InMember r k h = go (same_role r role.Id) (same_kind k kind.IdentifierName) (same_kind k kind.StringLiteral) (same_kind k kind.TemplateElement) h
    where
      go : (w x y z : Bool) → (x || y || z) ≡ false → (w && (x || y)) ≡ false
      go true false false z e = refl
      go true true y z e = absurd cc
      go true false true z e = absurd cc
      go false x y z e = refl
  member_may InMemberName r k h = go (same_role r role.Quasis) (same_kind k kind.IdentifierName) (same_kind k kind.StringLiteral) (same_kind k kind.TemplateElement) h
    where
      go : (w x y z : Bool) → (x || y || z) ≡ false → (w && z) ≡ false
      go true x y false e = refl
      go true true y true e = absurd cc
      go true false true true e = absurd cc
      go true false false true e = absurd cc
      go false x y z e = refl
  member_may Elsewhere r k h = refl

  -- the text of a node by the tests of its kind
  text_by : Name → Bool → Bool → Bool → Name
  text_by t x y z = if x || y || z then f t else t

  pub text_renamed : (setting : Setting) (r : Role) (k : AstType) (t : Name) → TextFor k t (renamed_text f setting r k t)
  unfolding text_by
  text_renamed setting r k t = record {
    named = λ h. named (same_kind k kind.BindingIdentifier) (same_kind k kind.IdentifierReference) (names_member setting r k) h;
    plain = λ h i. plain (same_kind k kind.BindingIdentifier) (same_kind k kind.IdentifierReference) (names_member setting r k) h (member_may setting r k i);
  }
    where
      named : (x y z : Bool) → (x || y) ≡ true → text_by t x y z ≡ f t
      named true y z e = refl
      named false true z e = refl
      named false false z e = absurd cc

      plain : (x y z : Bool) → (x || y) ≡ false → z ≡ false → text_by t x y z ≡ t
      plain true y z e i = absurd cc
      plain false true z e i = absurd cc
      plain false false true e i = absurd cc
      plain false false false e i = refl

  member_text : (setting : Setting) (r : Role) (k : AstType) (t : Name) → names_member setting r k ≡ true → renamed_text f setting r k t ≡ f t
  unfolding text_by
  member_text setting r k t h = go (same_kind k kind.BindingIdentifier) (same_kind k kind.IdentifierReference) (names_member setting r k) h
    where
      go : (x y z : Bool) → z ≡ true → text_by t x y z ≡ f t
      go true y z e = refl
      go false true z e = refl
      go false false true e = refl
      go false false false e = absurd cc

  -- the pieces of a template that names a member
  abbrev pieces_in : Forest → List Node
  pieces_in b = filter (is kind.TemplateElement) (children_of role.Quasis b)

  abbrev labelled : Span → List Node → List (Name × Span)
  labelled span names = map (λ name. (name.text, span)) names

  pieces : (span : Span) (b : Forest) → labelled span (pieces_in (renamed f InMemberName b)) ≡ map changed (labelled span (pieces_in b))
  pieces span nothing = refl
  pieces span (tree r k s text marks below id after) = go (same_role r role.Quasis) refl (pieces span after)
    where
      old : Node
      old = record { kind = k; span = s; text = text; marks = marks; children = below; node_id = id }

      new : Node
      new = record old { text = renamed_text f InMemberName r k text; children = renamed f (setting_below InMemberName r k) below }

      piece : (y : Bool) → (y ≡ true → new.text ≡ f text) → labelled span (pieces_in (renamed f InMemberName after)) ≡ map changed (labelled span (pieces_in after)) → labelled span (cond y (new ∷ pieces_in (renamed f InMemberName after)) (pieces_in (renamed f InMemberName after))) ≡ map changed (labelled span (cond y (old ∷ pieces_in after) (pieces_in after)))
      piece true e h = λ i. (e refl i, span) ∷ h i
      piece false e h = h

      go : (x : Bool) → same_role r role.Quasis ≡ x → labelled span (pieces_in (renamed f InMemberName after)) ≡ map changed (labelled span (pieces_in after)) → labelled span (filter (is kind.TemplateElement) (if x then new ∷ children_of role.Quasis (renamed f InMemberName after) else children_of role.Quasis (renamed f InMemberName after))) ≡ map changed (labelled span (filter (is kind.TemplateElement) (if x then old ∷ children_of role.Quasis after else children_of role.Quasis after)))
      go true q h = piece (same_kind k kind.TemplateElement) (λ e. member_text InMemberName r k text (and_from (same_role r role.Quasis) (same_kind k kind.TemplateElement) q e)) h
      go false q h = h

  -- a word or a text
  is_word : (k : AstType) → holds_kind (kind.IdentifierName ∷ kind.StringLiteral ∷ []) k ≡ true → (same_kind k kind.IdentifierName || same_kind k kind.StringLiteral) ≡ true
  is_word k h = go (cases_Bool (same_kind kind.IdentifierName k)) (cases_Bool (same_kind kind.StringLiteral k))
    where
      go : (same_kind kind.IdentifierName k ≡ true) ⊎ (same_kind kind.IdentifierName k ≡ false) → (same_kind kind.StringLiteral k ≡ true) ⊎ (same_kind kind.StringLiteral k ≡ false) → (same_kind k kind.IdentifierName || same_kind k kind.StringLiteral) ≡ true
      go (inl a) b = subst (λ j. (same_kind j kind.IdentifierName || same_kind j kind.StringLiteral) ≡ true) (kind_is kind.IdentifierName k a) refl
      go (inr a) (inl b) = subst (λ j. (same_kind j kind.IdentifierName || same_kind j kind.StringLiteral) ≡ true) (kind_is kind.StringLiteral k b) refl
      go (inr a) (inr b) = let q : false ≡ true = rw (a, b) at h in absurd cc

  below_template : (r : Role) (k : AstType) → same_role r role.Id ≡ true → same_kind k kind.TemplateLiteral ≡ true → InMemberName ≡ setting_below InMember r k
  below_template r k e h = rw (kind_is k kind.TemplateLiteral h, e) refl

  -- an id that is a word or a text, a template, or something else
  label_changed : (r : Role) (k : AstType) (s : Span) (text : Name) (marks : Marks) (b : Forest) (id : ℕ) → same_role r role.Id ≡ true → labels_in (record { kind = k; span = s; text = renamed_text f InMember r k text; marks = marks; children = renamed f (setting_below InMember r k) b; node_id = id }) ≡ map changed (labels_in (record { kind = k; span = s; text = text; marks = marks; children = b; node_id = id }))
  label_changed r k s text marks b id e =
      go (holds_kind (kind.IdentifierName ∷ kind.StringLiteral ∷ []) k) (same_kind k kind.TemplateLiteral)
      (λ h. member_text InMember r k text (and_from (same_role r role.Id) (same_kind k kind.IdentifierName || same_kind k kind.StringLiteral) e (is_word k h)))
      (λ h. subst (λ w. labelled s (pieces_in (renamed f w b)) ≡ map changed (labelled s (pieces_in b))) (below_template r k e h) (pieces s b))
    where
      old : Node
      old = record { kind = k; span = s; text = text; marks = marks; children = b; node_id = id }

      new : Node
      new = record old { text = renamed_text f InMember r k text; children = renamed f (setting_below InMember r k) b }

      go : (x y : Bool) → (x ≡ true → new.text ≡ f text) → (y ≡ true → labelled s (pieces_in new.children) ≡ map changed (labelled s (pieces_in b))) → labelled s (cond x (new ∷ []) (cond y (pieces_in new.children) [])) ≡ map changed (labelled s (cond x (old ∷ []) (cond y (pieces_in b) [])))
      go true y h i = λ j. (h refl j, s) ∷ []
      go false true h i = i refl
      go false false h i = refl

  labels_changed : (below : Forest) → labels (renamed f InMember below) ≡ map changed (labels below)
  labels_changed nothing = refl
  labels_changed (tree r k s text marks b id after) = go (same_role r role.Id) (label_changed r k s text marks b id) (labels_changed after)
    where
      old : Node
      old = record { kind = k; span = s; text = text; marks = marks; children = b; node_id = id }

      new : Node
      new = record old { text = renamed_text f InMember r k text; children = renamed f (setting_below InMember r k) b }

      go : (x : Bool) → (x ≡ true → labels_in new ≡ map changed (labels_in old)) → labels (renamed f InMember after) ≡ map changed (labels after) → flat_map labels_in (if x then new ∷ children_of role.Id (renamed f InMember after) else children_of role.Id (renamed f InMember after)) ≡ map changed (flat_map labels_in (if x then old ∷ children_of role.Id after else children_of role.Id after))
      go false e h = h
      go true e h = ap (λ ls. ls ++ labels (renamed f InMember after)) (e refl) ∙ ap (λ ls. map changed (labels_in old) ++ ls) h ∙ sym (map_append changed (labels_in old) (labels after))

  pub members_renamed : (setting : Setting) (r : Role) (k : AstType) (below : Forest) → MembersFor k below (renamed f (setting_below setting r k) below)
  members_renamed setting r k below h = subst (λ w. labels (renamed f w below) ≡ map changed (labels below)) (member_setting h) (labels_changed below)
    where
      member_setting : same_kind k kind.TSEnumMember ≡ true → InMember ≡ setting_below setting r k
      member_setting e = rw e refl

  -- a renamed forest differs in names alone
  pub alike_renamed : (setting : Setting) (g : Forest) → Alike g (renamed f setting g)
  alike_renamed setting nothing = no_trees
  alike_renamed setting (tree r k s text marks below id after) =
      trees_alike r k s text (renamed_text f setting r k text) marks below (renamed f (setting_below setting r k) below) id after (renamed f setting after)
      (text_renamed setting r k text) (members_renamed setting r k below) (alike_renamed (setting_below setting r k) below) (alike_renamed setting after)
