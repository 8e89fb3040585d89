use Rattle.std.proofs.Common.{refl, ap, ◌∙◌, [], ◌∷◌, length}
use Rattle.scoping.proofs.Folds.{length_homes, named_homes, shown_homes}
use Rattle.scoping.proofs.Shown.{tables_eq, symbol_within, sound_rows}
use Rattle.scoping.proofs.scoping.Scoping.set_symbol_scope_id.Goals as goal

pub set_home-requires : goal.set_home-requires
set_home-requires c = symbol_within c.self.inside c.self.invariant c.args.symbol (rw (← c.self.view_is) at c.requires)

pub invariant_of-self : goal.invariant_of-self
invariant_of-self c =
    let rows = c.self.inside.symbols.items in
    let ids = c.args.symbol ∷ [] in
    let within = symbol_within c.self.inside c.self.invariant c.args.symbol (rw (← c.self.view_is) at c.requires) in
    sound_rows c.self.inside c.self.invariant c.set_home.new.rows
    (ap length c.set_home.ensures ∙ length_homes c.self.inside.names c.args.scope ids rows)
    (rw c.set_home.ensures (named_homes c.self.inside.names _ c.args.scope ids rows (within, tt) c.self.invariant.named))

pub returns : goal.returns
returns c =
    let within = symbol_within c.self.inside c.self.invariant c.args.symbol (rw (← c.self.view_is) at c.requires) in
    rw (← c.self.view_is, c.set_home.ensures)
    (tables_eq _ _ refl refl (shown_homes c.self.inside.names c.args.scope (c.args.symbol ∷ []) c.self.inside.symbols.items (within, tt)) refl refl refl refl)
