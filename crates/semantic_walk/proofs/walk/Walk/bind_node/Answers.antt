-- What each arm declares is what the definition declares for its kind.
use Rattle.std.proofs.Common.{◌≡◌, ◌≤◌, ◌+◌, length, refl, sym, ap, subst, ◌∙◌}
use Rattle.semantic_kinds.specs.declared.kind.AstType.{AstType}
use Rattle.semantic_kinds.specs.declared.kind.AstType.TheVariants as kind
use Rattle.semantic_tree.specs.declared.node.Node.{Node}
use Rattle.semantic_syntax.specs.declared.symbol_flags.TheConstants.SymbolFlags as symbol
use Rattle.semantic_syntax.specs.Sets.{union}
use Rattle.semantic_model.specs.Binder.{marked_ambient, declared_by, declared_inside}
use Rattle.table_building.proofs.Growing.{goes-refl}
use Rattle.semantic_walk.proofs.PlaceDeclares.{stated, unstated, function_declares, function_opens}
use Rattle.semantic_walk.proofs.PlaceRows.{on_ok_same, caught_acts, members_act}
use Rattle.semantic_walk.proofs.BindArms.{DeclaresNothing, nothing_entered, nothing_opened, imports_declared, below_root, ids_declared, class_entered, class_opened, mapped_opened}
use Rattle.walk_model.specs.Room.{id_count}
use Rattle.semantic_walk.specs.Binds.{acting}
use Rattle.semantic_walk.specs.Ids.{HasIds, names_by}
use Rattle.semantic_walk.specs.Paths.{parent_in}
use Rattle.semantic_walk.specs.Walker.{Walker}
use Rattle.semantic_walk.proofs.walk.Walk.bind_node.Goals as goal

pub returns-in-Class-clause-entering : goal.returns-in-Class-clause-entering
returns-in-Class-clause-entering c = λ ds p e outside within shown.
    let k : p.node.kind ≡ kind.Class = ap (λ (n : Node). n.kind) e ∙ sym c.ty.ensures ∙ c.in-Class.is in
    on_ok_same c.bind_names.result c.bind_names.new.self _ _ (class_entered ds c.args.self.now p c.args.kind.node.now c.class_row.result e k outside c.class_row.ensures within) c.bind_names.ensures.made

pub returns-in-Class-clause-opening : goal.returns-in-Class-clause-opening
returns-in-Class-clause-opening c = λ ds p own e inside within.
    let k : p.node.kind ≡ kind.Class = ap (λ (n : Node). n.kind) e ∙ sym c.ty.ensures ∙ c.in-Class.is in
    on_ok_same c.bind_names.result c.bind_names.new.self _ _ (class_opened ds c.args.self.now p c.args.kind.node.now c.class_row.result e own k inside c.class_row.ensures within) c.bind_names.ensures.made

pub returns-in-Function-clause-entering : goal.returns-in-Function-clause-entering
returns-in-Function-clause-entering c = λ ds p e outside within shown.
    let k : p.node.kind ≡ kind.Function = ap (λ (n : Node). n.kind) e ∙ sym c.ty.ensures ∙ c.in-Function.is in
    let s = stated p.node kind.Function k refl outside in
    on_ok_same c.bind_function.result c.bind_function.new.self _ _ (ap (λ new. acting ds c.args.self.now new) (sym (function_declares p k s)))
    (c.bind_function.ensures.entering ds p e s within shown.chain (below_root p kind.Function k refl shown.grounded) shown.named)

pub returns-in-Function-clause-opening : goal.returns-in-Function-clause-opening
returns-in-Function-clause-opening c = λ ds p own e inside within.
    let k : p.node.kind ≡ kind.Function = ap (λ (n : Node). n.kind) e ∙ sym c.ty.ensures ∙ c.in-Function.is in
    let s = unstated p.node kind.Function k refl inside in
    on_ok_same c.bind_function.result c.bind_function.new.self _ _ (ap (λ new. acting ds c.args.self.now new) (sym (function_opens p own k s)))
    (c.bind_function.ensures.opening ds p own e s within)

pub returns-in-CatchParameter-clause-entering : goal.returns-in-CatchParameter-clause-entering
returns-in-CatchParameter-clause-entering c = λ ds p e outside within shown.
    on_ok_same c.bind_caught.result c.bind_caught.new.self _ _
    (caught_acts ds c.args.self.now p within c.args.kind.node.now e (ap (λ (n : Node). n.kind) e ∙ sym c.ty.ensures ∙ c.in-CatchParameter.is)) c.bind_caught.ensures.made

pub returns-in-ImportSpecifier-clause-entering : goal.returns-in-ImportSpecifier-clause-entering
returns-in-ImportSpecifier-clause-entering c = λ ds p e outside within shown.
    let k : p.node.kind ≡ c.ty.result = ap (λ (n : Node). n.kind) e ∙ sym c.ty.ensures in
    on_ok_same c.bind_import.result c.bind_import.new.self _ _
    (ap (λ new. acting ds c.args.self.now new) (sym (ap (λ j. declared_by j p) k ∙ imports_declared c.ty.result p c.in-ImportSpecifier.is))) (c.bind_import.ensures.made ds p e within)

pub returns-in-TSImportEqualsDeclaration-clause-entering : goal.returns-in-TSImportEqualsDeclaration-clause-entering
returns-in-TSImportEqualsDeclaration-clause-entering c = λ ds p e outside within shown.
    on_ok_same c.bind_names-in-TSImportEqualsDeclaration.result c.bind_names-in-TSImportEqualsDeclaration.new.self _ _
    (ids_declared ds c.args.self.now p c.args.kind.node.now c.import_equals_row.result e kind.TSImportEqualsDeclaration (λ n. symbol.Import.bits) symbol.ImportBindingExcludes.bits
    (ap (λ (n : Node). n.kind) e ∙ sym c.ty.ensures ∙ c.in-TSImportEqualsDeclaration.is) c.import_equals_row.ensures within refl refl refl) c.bind_names-in-TSImportEqualsDeclaration.ensures.made

pub returns-in-TSTypeAliasDeclaration-clause-entering : goal.returns-in-TSTypeAliasDeclaration-clause-entering
returns-in-TSTypeAliasDeclaration-clause-entering c = λ ds p e outside within shown.
    on_ok_same c.bind_names-in-TSTypeAliasDeclaration.result c.bind_names-in-TSTypeAliasDeclaration.new.self _ _
    (ids_declared ds c.args.self.now p c.args.kind.node.now c.type_alias_row.result e kind.TSTypeAliasDeclaration (λ n. union symbol.TypeAlias.bits (marked_ambient n)) symbol.TypeAliasExcludes.bits
    (ap (λ (n : Node). n.kind) e ∙ sym c.ty.ensures ∙ c.in-TSTypeAliasDeclaration.is) c.type_alias_row.ensures within refl refl refl) c.bind_names-in-TSTypeAliasDeclaration.ensures.made

pub returns-in-TSInterfaceDeclaration-clause-entering : goal.returns-in-TSInterfaceDeclaration-clause-entering
returns-in-TSInterfaceDeclaration-clause-entering c = λ ds p e outside within shown.
    on_ok_same c.bind_names-in-TSInterfaceDeclaration.result c.bind_names-in-TSInterfaceDeclaration.new.self _ _
    (ids_declared ds c.args.self.now p c.args.kind.node.now c.interface_row.result e kind.TSInterfaceDeclaration (λ n. union symbol.Interface.bits (marked_ambient n)) symbol.InterfaceExcludes.bits
    (ap (λ (n : Node). n.kind) e ∙ sym c.ty.ensures ∙ c.in-TSInterfaceDeclaration.is) c.interface_row.ensures within refl refl refl) c.bind_names-in-TSInterfaceDeclaration.ensures.made

pub returns-in-TSEnumDeclaration-clause-entering : goal.returns-in-TSEnumDeclaration-clause-entering
returns-in-TSEnumDeclaration-clause-entering c = λ ds p e outside within shown.
    on_ok_same c.bind_names-in-TSEnumDeclaration.result c.bind_names-in-TSEnumDeclaration.new.self _ _
    (ids_declared ds c.args.self.now p c.args.kind.node.now c.enum_row.result e kind.TSEnumDeclaration (λ n. c.enum_row.result.flags.bits) c.enum_row.result.excluded.bits
    (ap (λ (n : Node). n.kind) e ∙ sym c.ty.ensures ∙ c.in-TSEnumDeclaration.is) (record { flags = refl; excluded = refl }) within refl refl (c.enum_row.ensures p e)) c.bind_names-in-TSEnumDeclaration.ensures.made

pub returns-in-TSEnumMember-clause-entering : goal.returns-in-TSEnumMember-clause-entering
returns-in-TSEnumMember-clause-entering c = λ ds p e outside within shown.
    on_ok_same c.bind_member.result c.bind_member.new.self _ _
    (members_act ds c.args.self.now p within c.args.kind.node.now e (ap (λ (n : Node). n.kind) e ∙ sym c.ty.ensures ∙ c.in-TSEnumMember.is)) c.bind_member.ensures.made

pub returns-in-TSNamespaceDeclaration-clause-entering : goal.returns-in-TSNamespaceDeclaration-clause-entering
returns-in-TSNamespaceDeclaration-clause-entering c = λ ds p e outside within shown.
    c.bind_namespace.ensures.made ds p e within (ap (λ (n : Node). n.kind) e ∙ sym c.ty.ensures ∙ c.in-TSNamespaceDeclaration.is) shown.stated

pub returns-in-TSMappedType-clause-opening : goal.returns-in-TSMappedType-clause-opening
returns-in-TSMappedType-clause-opening c = λ ds p own e inside within.
    on_ok_same c.bind_at.result c.bind_at.new.self _ _
    (mapped_opened ds c.args.self.now p c.args.kind.node.now c.type_parameter_row.result e own (ap (λ (n : Node). n.kind) e ∙ sym c.ty.ensures ∙ c.in-TSMappedType.is) c.type_parameter_row.ensures within) c.bind_at.ensures.made

pub returns-in_default : goal.returns-in_default
returns-in_default c =
    let w = c.args.self.now in
    let nothing : DeclaresNothing c.ty.result = record {
      variable = c.in_default.not-VariableDeclarator;
      function = c.in_default.not-Function;
      class = c.in_default.not-Class;
      parameter = c.in_default.not-FormalParameter;
      parameter_rest = c.in_default.not-FormalParameterRest;
      rest_element = c.in_default.not-BindingRestElement;
      caught = c.in_default.not-CatchParameter;
      specifier = c.in_default.not-ImportSpecifier;
      default_specifier = c.in_default.not-ImportDefaultSpecifier;
      namespace_specifier = c.in_default.not-ImportNamespaceSpecifier;
      import_equals = c.in_default.not-TSImportEqualsDeclaration;
      type_alias = c.in_default.not-TSTypeAliasDeclaration;
      interface = c.in_default.not-TSInterfaceDeclaration;
      enum = c.in_default.not-TSEnumDeclaration;
      member = c.in_default.not-TSEnumMember;
      namespace = c.in_default.not-TSNamespaceDeclaration;
      type_parameter = c.in_default.not-TSTypeParameter;
      mapped = c.in_default.not-TSMappedType;
    } in
    record {
      goes = goes-refl w.made;
      entering = λ ds p e outside within shown.
          ap (λ new. acting ds w new) (sym (ap (λ j. declared_by j p) (ap (λ (n : Node). n.kind) e ∙ sym c.ty.ensures) ∙ nothing_entered c.ty.result p nothing));
      opening = λ ds p own e inside within.
          ap (λ new. acting ds w new) (sym (ap (λ j. declared_inside j p own) (ap (λ (n : Node). n.kind) e ∙ sym c.ty.ensures) ∙ nothing_opened c.ty.result p own nothing));
    }

-- there are ids for the names that a node of the kind declares
ids_by : (w : Walker) (node : Node) (k : AstType) → node.kind ≡ k → HasIds w node → length w.made.tables.symbols + length (names_by k (parent_in w.path) node) ≤ id_count
ids_by w node k e h = subst (λ j. length w.made.tables.symbols + length (names_by j (parent_in w.path) node) ≤ id_count) e h

pub bind_variables-requires : goal.bind_variables-requires
bind_variables-requires c = ids_by c.args.self.now c.args.kind.node.now kind.VariableDeclarator (sym c.ty.ensures ∙ c.in-VariableDeclarator.is) c.requires

pub bind_names-requires : goal.bind_names-requires
bind_names-requires c = ids_by c.args.self.now c.args.kind.node.now kind.Class (sym c.ty.ensures ∙ c.in-Class.is) c.requires

pub bind_function-requires : goal.bind_function-requires
bind_function-requires c = ids_by c.args.self.now c.args.kind.node.now kind.Function (sym c.ty.ensures ∙ c.in-Function.is) c.requires

pub bind_rest-requires : goal.bind_rest-requires
bind_rest-requires c = ids_by c.args.self.now c.args.kind.node.now kind.BindingRestElement (sym c.ty.ensures ∙ c.in-BindingRestElement.is) c.requires

pub bind_caught-requires : goal.bind_caught-requires
bind_caught-requires c = ids_by c.args.self.now c.args.kind.node.now kind.CatchParameter (sym c.ty.ensures ∙ c.in-CatchParameter.is) c.requires

pub bind_names-requires-in-TSImportEqualsDeclaration : goal.bind_names-requires-in-TSImportEqualsDeclaration
bind_names-requires-in-TSImportEqualsDeclaration c = ids_by c.args.self.now c.args.kind.node.now kind.TSImportEqualsDeclaration (sym c.ty.ensures ∙ c.in-TSImportEqualsDeclaration.is) c.requires

pub bind_names-requires-in-TSTypeAliasDeclaration : goal.bind_names-requires-in-TSTypeAliasDeclaration
bind_names-requires-in-TSTypeAliasDeclaration c = ids_by c.args.self.now c.args.kind.node.now kind.TSTypeAliasDeclaration (sym c.ty.ensures ∙ c.in-TSTypeAliasDeclaration.is) c.requires

pub bind_names-requires-in-TSInterfaceDeclaration : goal.bind_names-requires-in-TSInterfaceDeclaration
bind_names-requires-in-TSInterfaceDeclaration c = ids_by c.args.self.now c.args.kind.node.now kind.TSInterfaceDeclaration (sym c.ty.ensures ∙ c.in-TSInterfaceDeclaration.is) c.requires

pub bind_names-requires-in-TSEnumDeclaration : goal.bind_names-requires-in-TSEnumDeclaration
bind_names-requires-in-TSEnumDeclaration c = ids_by c.args.self.now c.args.kind.node.now kind.TSEnumDeclaration (sym c.ty.ensures ∙ c.in-TSEnumDeclaration.is) c.requires

pub bind_member-requires : goal.bind_member-requires
bind_member-requires c = ids_by c.args.self.now c.args.kind.node.now kind.TSEnumMember (sym c.ty.ensures ∙ c.in-TSEnumMember.is) c.requires

pub bind_namespace-requires : goal.bind_namespace-requires
bind_namespace-requires c = ids_by c.args.self.now c.args.kind.node.now kind.TSNamespaceDeclaration (sym c.ty.ensures ∙ c.in-TSNamespaceDeclaration.is) c.requires

pub bind_type_parameter-requires : goal.bind_type_parameter-requires
bind_type_parameter-requires c = ids_by c.args.self.now c.args.kind.node.now kind.TSTypeParameter (sym c.ty.ensures ∙ c.in-TSTypeParameter.is) c.requires

pub bind_at-requires : goal.bind_at-requires
bind_at-requires c = ids_by c.args.self.now c.args.kind.node.now kind.TSMappedType (sym c.ty.ensures ∙ c.in-TSMappedType.is) c.requires

pub returns-in-VariableDeclarator-clause-goes : goal.returns-in-VariableDeclarator-clause-goes
returns-in-VariableDeclarator-clause-goes c = c.bind_variables.ensures.goes

pub returns-in-Class-clause-goes : goal.returns-in-Class-clause-goes
returns-in-Class-clause-goes c = c.bind_names.ensures.goes

pub returns-in-Function-clause-goes : goal.returns-in-Function-clause-goes
returns-in-Function-clause-goes c = c.bind_function.ensures.goes

pub returns-in-BindingRestElement-clause-goes : goal.returns-in-BindingRestElement-clause-goes
returns-in-BindingRestElement-clause-goes c = c.bind_rest.ensures.goes

pub returns-in-CatchParameter-clause-goes : goal.returns-in-CatchParameter-clause-goes
returns-in-CatchParameter-clause-goes c = c.bind_caught.ensures.goes

pub returns-in-TSImportEqualsDeclaration-clause-goes : goal.returns-in-TSImportEqualsDeclaration-clause-goes
returns-in-TSImportEqualsDeclaration-clause-goes c = c.bind_names-in-TSImportEqualsDeclaration.ensures.goes

pub returns-in-TSTypeAliasDeclaration-clause-goes : goal.returns-in-TSTypeAliasDeclaration-clause-goes
returns-in-TSTypeAliasDeclaration-clause-goes c = c.bind_names-in-TSTypeAliasDeclaration.ensures.goes

pub returns-in-TSInterfaceDeclaration-clause-goes : goal.returns-in-TSInterfaceDeclaration-clause-goes
returns-in-TSInterfaceDeclaration-clause-goes c = c.bind_names-in-TSInterfaceDeclaration.ensures.goes

pub returns-in-TSEnumDeclaration-clause-goes : goal.returns-in-TSEnumDeclaration-clause-goes
returns-in-TSEnumDeclaration-clause-goes c = c.bind_names-in-TSEnumDeclaration.ensures.goes

pub returns-in-TSEnumMember-clause-goes : goal.returns-in-TSEnumMember-clause-goes
returns-in-TSEnumMember-clause-goes c = c.bind_member.ensures.goes

pub returns-in-TSNamespaceDeclaration-clause-goes : goal.returns-in-TSNamespaceDeclaration-clause-goes
returns-in-TSNamespaceDeclaration-clause-goes c = c.bind_namespace.ensures.goes

pub returns-in-TSTypeParameter-clause-goes : goal.returns-in-TSTypeParameter-clause-goes
returns-in-TSTypeParameter-clause-goes c = c.bind_type_parameter.ensures.goes

pub returns-in-TSMappedType-clause-goes : goal.returns-in-TSMappedType-clause-goes
returns-in-TSMappedType-clause-goes c = c.bind_at.ensures.goes

pub returns-in-FormalParameter-clause-goes : goal.returns-in-FormalParameter-clause-goes
returns-in-FormalParameter-clause-goes c = c.bind_parameter.ensures.goes

pub returns-in-ImportSpecifier-clause-goes : goal.returns-in-ImportSpecifier-clause-goes
returns-in-ImportSpecifier-clause-goes c = c.bind_import.ensures.goes
