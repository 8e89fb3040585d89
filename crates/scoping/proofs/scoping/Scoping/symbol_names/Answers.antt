use Rattle.std.proofs.Common.{sym, ap, map, ◌∙◌}
use Rattle.scoping_rows.specs.Names.{name_at}
use Rattle.scoping_rows.specs.Row.{Row}
use Rattle.scoping.proofs.Shown.{names_of_rows}
use Rattle.scoping.proofs.scoping.Scoping.symbol_names.Goals as goal

pub returns : goal.returns
returns c = rw (← c.self.view_is) (c.new.ensures ∙ ap (map (λ (y : Row). name_at c.self.inside.names y.name)) c.as_slice.ensures.value ∙ sym (names_of_rows c.self.inside.names c.self.inside.symbols.items))
