-- Programs whose names begin with a sign that tells whether the name is to change. Of such a program both come, the one
-- with the old names and the one with the new name.
use Rattle.std.proofs.Common.{◌≡◌, ℕ, zero, suc, List, [], ◌∷◌, Bool, true, false, ◌&&◌, cond, if◌then◌else◌, inl, inr, ◌⊎◌, refl, sym, ap, subst, ◌∙◌}
use Rattle.std.specs.Prelude.{filter}
use Rattle.std.proofs.lemmas.Bool.{cases_Bool}
use Rattle.semantic_kinds.specs.Classes.{holds_kind}
use Rattle.semantic_kinds.specs.Kinds.{same_kind}
use Rattle.semantic_kinds.specs.Roles.{same_role}
use Rattle.semantic_kinds.specs.declared.kind.AstType.{AstType}
use Rattle.semantic_kinds.specs.declared.kind.AstType.TheVariants as kind
use Rattle.semantic_kinds.specs.declared.role.Role.{Role}
use Rattle.semantic_kinds.specs.declared.role.Role.TheVariants as role
use Rattle.semantic_syntax.specs.Tables.{Name}
use Rattle.semantic_tree.specs.Forest.{Forest, nothing, tree}
use Rattle.semantic_tree.specs.Renamed.{is_program_name, setting_below, renamed}
use Rattle.semantic_tree.specs.Views.{is, children_of}
use Rattle.semantic_tree.specs.declared.node.Node.{Node}
use Rattle.semantic_tree.specs.declared.swap.Setting.{Setting}
use Rattle.semantic_tree.specs.declared.swap.Setting.TheVariants.{InMember, InMemberName}
use Rattle.semantic_model.specs.Binder.{member_names}
use Rattle.semantic_model.specs.Entries.{Among}
use Rattle.semantic_model.proofs.form.Clauses.{kind_is}
use Rattle.semantic_model.proofs.lists.Members.{among_cases}
use Rattle.program_laws.proofs.TreeNodes.{nodes_below}
use Rattle.rename_model.specs.WithName.{with_name_alone, is_identifier, AreIdentifiers}
use Rattle.rename_model.proofs.NameShape.{identifier_cases}

-- the old name
abbrev pub unsigned : Name → Name
unsigned [] = []
unsigned (c ∷ text) = text

-- the new name where the sign says so
abbrev pub given : Name → Name → Name
given new [] = []
given new (zero ∷ text) = text
given new (suc c ∷ text) = new

differ : false ≡ true → ⊥
differ e = cc

module _ (chosen : ℕ → Bool) where
  abbrev sign : AstType → ℕ → ℕ
  sign k id = cond (is_identifier k && chosen id) 1 0

  abbrev signed_text : Setting → Role → AstType → ℕ → Name → Name
  signed_text setting r k id text = if is_program_name setting r k then sign k id ∷ text else text

  -- the forest in which each name has its sign
  abbrev pub signed : Setting → Forest → Forest
  signed setting nothing = nothing
  signed setting (tree r k span text marks below id after) =
      tree r k span (signed_text setting r k id text) marks (signed (setting_below setting r k) below) id (signed setting after)

  pub signs_taken : (setting : Setting) (f : Forest) → renamed unsigned setting (signed setting f) ≡ f
  signs_taken setting nothing = refl
  signs_taken setting (tree r k span text marks below id after) =
      λ i. tree r k span (go (is_program_name setting r k) i) marks (signs_taken (setting_below setting r k) below i) id (signs_taken setting after i)
    where
      go : (b : Bool) → (if b then unsigned (if b then sign k id ∷ text else text) else (if b then sign k id ∷ text else text)) ≡ text
      go true = refl
      go false = refl

  pub names_given : (new : Name) (setting : Setting) (f : Forest) → AreIdentifiers chosen f → renamed (given new) setting (signed setting f) ≡ with_name_alone chosen new f
  names_given new setting nothing h = refl
  names_given new setting (tree r k span text marks below id after) h =
      λ i. tree r k span (go (is_program_name setting r k) (is_identifier k) (chosen id) h.0 (λ e. identifier_cases (λ j. is_program_name setting r j ≡ true) refl refl k e) i) marks
      (names_given new (setting_below setting r k) below h.1 i) id (names_given new setting after h.2 i)
    where
      go : (n j c : Bool) → (c ≡ true → j ≡ true) → (j ≡ true → n ≡ true) → (if n then given new (if n then cond (j && c) 1 0 ∷ text else text) else (if n then cond (j && c) 1 0 ∷ text else text)) ≡ cond c new text
      go true true true a b = refl
      go true true false a b = refl
      go true false true a b = absurd (differ (a refl))
      go true false false a b = refl
      go false true c a b = absurd (differ (b refl))
      go false false true a b = absurd (differ (a refl))
      go false false false a b = refl

  module _ (new : Name) where
    -- the new name stands where the node is chosen, else the old one
    abbrev pub Good : Node → Type 0
    Good x = given new x.text ≡ cond (chosen x.node_id) new (unsigned x.text)

    signed_good : (c : Bool) (text : Name) → given new (cond c 1 0 ∷ text) ≡ cond c new text
    signed_good true text = refl
    signed_good false text = refl

    pub each_good : (setting : Setting) (f : Forest) (x : Node) → Among x (nodes_below (signed setting f)) → x.kind ≡ kind.BindingIdentifier → Good x
    each_good setting nothing x a e = absurd a
    each_good setting (tree r k span text marks below id after) x (inl q) e =
        let own : k ≡ kind.BindingIdentifier = ap (λ (y : Node). y.kind) q ∙ e in
        subst Good q (subst (λ j. given new (signed_text setting r j id text) ≡ cond (chosen id) new (unsigned (signed_text setting r j id text))) (sym own) (signed_good (chosen id) text))
    each_good setting (tree r k span text marks below id after) x (inr a) e = elim (among_cases x (nodes_below (signed (setting_below setting r k) below)) (nodes_below (signed setting after)) a) [
      | inl b ↦ each_good (setting_below setting r k) below x b e
      | inr b ↦ each_good setting after x b e
    ]

    -- ---- enum members

    pub member_inside : (setting : Setting) (f : Forest) (x : Node) → Among x (nodes_below (signed setting f)) → x.kind ≡ kind.TSEnumMember → (g : Forest) × (x.children ≡ signed InMember g)
    member_inside setting nothing x a e = absurd a
    member_inside setting (tree r k span text marks below id after) x (inl q) e =
        let own : k ≡ kind.TSEnumMember = ap (λ (y : Node). y.kind) q ∙ e in
        (below, sym (ap (λ (y : Node). y.children) q) ∙ ap (λ j. signed (setting_below setting r j) below) own)
    member_inside setting (tree r k span text marks below id after) x (inr a) e = elim (among_cases x (nodes_below (signed (setting_below setting r k) below)) (nodes_below (signed setting after)) a) [
      | inl b ↦ member_inside (setting_below setting r k) below x b e
      | inr b ↦ member_inside setting after x b e
    ]

    pub member_unchosen : (setting : Setting) (f : Forest) (x : Node) → AreIdentifiers chosen f → Among x (nodes_below (signed setting f)) → x.kind ≡ kind.TSEnumMember → chosen x.node_id ≡ false
    member_unchosen setting nothing x h a e = absurd a
    member_unchosen setting (tree r k span text marks below id after) x h (inl q) e =
        let own : k ≡ kind.TSEnumMember = ap (λ (y : Node). y.kind) q ∙ e in
        subst (λ (y : Node). chosen y.node_id ≡ false) q (go (chosen id) (λ c. sym (ap is_identifier own) ∙ h.0 c))
      where
        go : (c : Bool) → (c ≡ true → is_identifier kind.TSEnumMember ≡ true) → c ≡ false
        go true i = absurd (differ (i refl))
        go false i = refl
    member_unchosen setting (tree r k span text marks below id after) x h (inr a) e = elim (among_cases x (nodes_below (signed (setting_below setting r k) below)) (nodes_below (signed setting after)) a) [
      | inl b ↦ member_unchosen (setting_below setting r k) below x h.1 b e
      | inr b ↦ member_unchosen setting after x h.2 b e
    ]

    -- a text that has the sign of no change
    abbrev pub IsKept : Node → Type 0
    IsKept x = given new x.text ≡ unsigned x.text

    piece_kept : (r : Role) (k : AstType) (id : ℕ) (text : Name) → same_role r role.Quasis ≡ true → k ≡ kind.TemplateElement → given new (signed_text InMemberName r k id text) ≡ unsigned (signed_text InMemberName r k id text)
    piece_kept r k id text e h = subst (λ j. given new (signed_text InMemberName r j id text) ≡ unsigned (signed_text InMemberName r j id text)) (sym h) (rw e refl)

    pub pieces_kept : (b : Forest) (x : Node) → Among x (filter (is kind.TemplateElement) (children_of role.Quasis (signed InMemberName b))) → IsKept x
    pieces_kept nothing x a = absurd a
    pieces_kept (tree r k span text marks below id after) x a = go (same_role r role.Quasis) refl a (pieces_kept after x)
      where
        old : Node
        old = record { kind = k; span = span; text = signed_text InMemberName r k id text; marks = marks; children = signed (setting_below InMemberName r k) below; node_id = id }

        rest : List Node
        rest = children_of role.Quasis (signed InMemberName after)

        piece : (y : Bool) → same_kind k kind.TemplateElement ≡ y → same_role r role.Quasis ≡ true → Among x (cond y (old ∷ filter (is kind.TemplateElement) rest) (filter (is kind.TemplateElement) rest)) → (Among x (filter (is kind.TemplateElement) rest) → IsKept x) → IsKept x
        piece true h e (inl q) more = subst IsKept q (piece_kept r k id text e (kind_is k kind.TemplateElement h))
        piece true h e (inr q) more = more q
        piece false h e q more = more q

        go : (b : Bool) → same_role r role.Quasis ≡ b → Among x (filter (is kind.TemplateElement) (cond b (old ∷ rest) rest)) → (Among x (filter (is kind.TemplateElement) rest) → IsKept x) → IsKept x
        go true e q more = piece (same_kind k kind.TemplateElement) refl e q more
        go false e q more = more q

    word_kept : (r : Role) (k : AstType) (id : ℕ) (text : Name) → same_role r role.Id ≡ true → holds_kind (kind.IdentifierName ∷ kind.StringLiteral ∷ []) k ≡ true → given new (signed_text InMember r k id text) ≡ unsigned (signed_text InMember r k id text)
    word_kept r k id text e h = go (cases_Bool (same_kind kind.IdentifierName k)) (cases_Bool (same_kind kind.StringLiteral k))
      where
        go : (same_kind kind.IdentifierName k ≡ true) ⊎ (same_kind kind.IdentifierName k ≡ false) → (same_kind kind.StringLiteral k ≡ true) ⊎ (same_kind kind.StringLiteral k ≡ false) → given new (signed_text InMember r k id text) ≡ unsigned (signed_text InMember r k id text)
        go (inl a) b = subst (λ j. given new (signed_text InMember r j id text) ≡ unsigned (signed_text InMember r j id text)) (kind_is kind.IdentifierName k a) (rw e refl)
        go (inr a) (inl b) = subst (λ j. given new (signed_text InMember r j id text) ≡ unsigned (signed_text InMember r j id text)) (kind_is kind.StringLiteral k b) (rw e refl)
        go (inr a) (inr b) = let q : false ≡ true = rw (a, b) at h in absurd (differ q)

    template_setting : (r : Role) (k : AstType) → same_role r role.Id ≡ true → k ≡ kind.TemplateLiteral → setting_below InMember r k ≡ InMemberName
    template_setting r k e h = rw (h, e) refl

    pub labels_kept : (g : Forest) (id : Node) → Among id (children_of role.Id (signed InMember g)) → (x : Node) → Among x (member_names id) → IsKept x
    labels_kept nothing id a x b = absurd a
    labels_kept (tree r k span text marks below n after) id a x b = go (same_role r role.Id) refl a (λ c. labels_kept after id c x b)
      where
        old : Node
        old = record { kind = k; span = span; text = signed_text InMember r k n text; marks = marks; children = signed (setting_below InMember r k) below; node_id = n }

        rest : List Node
        rest = children_of role.Id (signed InMember after)

        by : (w t : Bool) → holds_kind (kind.IdentifierName ∷ kind.StringLiteral ∷ []) k ≡ w → same_kind k kind.TemplateLiteral ≡ t → same_role r role.Id ≡ true → Among x (cond w (old ∷ []) (cond t (filter (is kind.TemplateElement) (children_of role.Quasis old.children)) [])) → IsKept x
        by true t h i e (inl q) = subst IsKept q (word_kept r k n text e h)
        by true t h i e (inr q) = absurd q
        by false true h i e q = pieces_kept below x (subst (λ s. Among x (filter (is kind.TemplateElement) (children_of role.Quasis (signed s below)))) (template_setting r k e (kind_is k kind.TemplateLiteral i)) q)
        by false false h i e q = absurd q

        own : same_role r role.Id ≡ true → Among x (member_names old) → IsKept x
        own e q = by (holds_kind (kind.IdentifierName ∷ kind.StringLiteral ∷ []) k) (same_kind k kind.TemplateLiteral) refl refl e q

        go : (t : Bool) → same_role r role.Id ≡ t → Among id (cond t (old ∷ rest) rest) → (Among id rest → IsKept x) → IsKept x
        go true e (inl q) more = own e (subst (λ (y : Node). Among x (member_names y)) (sym q) b)
        go true e (inr q) more = more q
        go false e q more = more q
