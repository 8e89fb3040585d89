use Rattle.std.proofs.Common.{refl, ap, ◌∙◌, sym}
use Rattle.semantic_syntax.specs.Tables.{Symbol}
use Rattle.scoping.proofs.Shown.{symbol_index, tables_eq, symbol_at, symbol_changed, symbol_within}
use Rattle.scoping.proofs.scoping.Scoping.symbol_flags_mut.Goals as goal

pub returns : goal.returns
returns c =
    let within = symbol_within c.self.inside c.self.invariant c.args.symbol (rw (← c.self.view_is) at c.requires) in (
      (
        refl,
        λ w. rw (← c.self.view_is)
            (tables_eq _ _ refl refl
            (symbol_changed c.self.inside.names c.self.inside.symbols.items c.args.symbol c.index.result c.index_mut.result.now (record c.index_mut.result.now { flags = w }) c.index.ensures within c.index_mut.ensures.value (λ y. record y { flags = w }) refl)
            refl refl refl refl),
      ),
      record {
        writes_back = tt;
        value = rw (← c.self.view_is) (c.flags_mut.ensures.value ∙ sym (ap (λ (y : Symbol). y.flags) (symbol_at c.self.inside.names c.self.inside.symbols.items c.args.symbol c.index.result c.index_mut.result.now c.index_mut.result.now c.index.ensures within c.index_mut.ensures.value)));
      },
    )

pub index_mut-requires : goal.index_mut-requires
index_mut-requires c = symbol_index c.self.inside c.self.invariant c.args.symbol c.index.result c.index.ensures (rw (← c.self.view_is) at c.requires)
