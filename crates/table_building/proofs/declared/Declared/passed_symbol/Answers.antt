use Rattle.std.proofs.Common.{◌≡◌, ◌+◌, ◌<◌, None, length, get_or, drop, sym, ap, subst, ◌∙◌, arith}
use Rattle.walk_model.specs.Declares.{found}
use Rattle.walk_model.specs.Hoists.{value_symbol, against_way, passed_symbol}
use Rattle.table_building.specs.Named.{naming}
use Rattle.table_building.proofs.Growing.{goes-trans}
use Rattle.table_building.proofs.Passing.{way_on, passed_symbol_on}
use Rattle.table_building.proofs.declared.Declared.passed_symbol.Goals as goal

pub loop-scope-preserved : goal.loop-scope-preserved
loop-scope-preserved c =
    let w = c.loop-scope.self in
    let d = naming c.args.declaration.now in
    let items = c.as_slice-scope-items.result.now in
    let i = c.loop-scope.scope-index in
    let within : i < length items = omega arith in
    let here = c.id.result in
    let is = subst (λ s. s ≡ get_or items i s) (sym c.id.ensures) c.scope-item.is in
    let none : value_symbol w.tables (found w here d.name) ≡ None = sym c.in_ok-symbol.ensures.symbol ∙ c.in_default.is in
    let noted = c.in_ok-symbol.ensures.noted in
    record {
      items = c.loop-scope.invariant.items;
      noted = ap (λ v. against_way v d (drop (i + 1) items)) noted ∙ sym (way_on w d items i here within is none) ∙ c.loop-scope.invariant.noted;
      asked = ap (λ v. passed_symbol v (drop (i + 1) items) d.name) noted ∙ sym (passed_symbol_on w d items i here within is none) ∙ c.loop-scope.invariant.asked;
      symbols = c.in_ok-symbol.ensures.symbols ∙ c.loop-scope.invariant.symbols;
      goes = goes-trans _ _ _ c.loop-scope.invariant.goes c.in_ok-symbol.ensures.goes;
    }
