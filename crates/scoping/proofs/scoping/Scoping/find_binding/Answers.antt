use Rattle.std.proofs.Common.{◌≡◌, [], length, Some, None, ap, sym, ◌∙◌, arith}
use Rattle.scoping_rows.specs.Names.{name_of}
use Rattle.semantic_syntax.specs.Reading.{parent_of, chain, IsForest, first_bound}
use Rattle.scoping.proofs.Parents.{chain-step, chain-end, chain-begins, parent_of-read}
use Rattle.scoping.proofs.Outward.{first_bound-found, first_bound-passed, first_bound-none}
use Rattle.scoping.proofs.scoping.Scoping.find_binding.Goals as goal

pub returns-in-Some : goal.returns-in-Some
returns-in-Some c =
    let forest : IsForest c.args.self.now.scopes = rw (← c.self.view_is) c.self.invariant.forest in
    let begins = chain-begins c.args.self.now.scopes c.loop-symbol.current forest c.loop-symbol.invariant.within in
    sym (c.loop-symbol.invariant.rest
    ∙ ap (first_bound c.args.self.now.bindings (name_of c.args.name)) begins.1
    ∙ first_bound-found c.args.self.now.bindings (name_of c.args.name) c.loop-symbol.current c.in-Some.symbol begins.0 (sym c.in-Some.ensures))

pub loop-symbol-smaller : goal.loop-symbol-smaller
loop-symbol-smaller c =
    let forest : IsForest c.args.self.now.scopes = rw (← c.self.view_is) c.self.invariant.forest in
    let parent : parent_of c.args.self.now.scopes c.loop-symbol.current ≡ Some c.in-Some-parent.parent = rw (← c.self.view_is) (parent_of-read c.self.inside.scopes.items c.loop-symbol.current c.index.result c.index-in-loop-symbol.result.now _ (rw (← c.self.view_is) at c.loop-symbol.invariant.within) c.index.ensures c.index-in-loop-symbol.ensures c.in-Some-parent.is) in
    let step = chain-step c.args.self.now.scopes c.loop-symbol.current forest c.loop-symbol.invariant.within c.in-Some-parent.parent parent in
    omega (arith, ap length step)

pub loop-symbol-preserved : goal.loop-symbol-preserved
loop-symbol-preserved c =
    let forest : IsForest c.args.self.now.scopes = rw (← c.self.view_is) c.self.invariant.forest in
    let parent : parent_of c.args.self.now.scopes c.loop-symbol.current ≡ Some c.in-Some-parent.parent = rw (← c.self.view_is) (parent_of-read c.self.inside.scopes.items c.loop-symbol.current c.index.result c.index-in-loop-symbol.result.now _ (rw (← c.self.view_is) at c.loop-symbol.invariant.within) c.index.ensures c.index-in-loop-symbol.ensures c.in-Some-parent.is) in
    let exists = forest.exist c.loop-symbol.current in
    record {
      within = rw parent at exists;
      rest = c.loop-symbol.invariant.rest
          ∙ ap (first_bound c.args.self.now.bindings (name_of c.args.name)) (chain-step c.args.self.now.scopes c.loop-symbol.current forest c.loop-symbol.invariant.within c.in-Some-parent.parent parent)
          ∙ first_bound-passed c.args.self.now.bindings (name_of c.args.name) c.loop-symbol.current (chain c.args.self.now.scopes c.in-Some-parent.parent) (sym c.in_default.ensures);
    }

pub returns-in-None : goal.returns-in-None
returns-in-None c =
    let forest : IsForest c.args.self.now.scopes = rw (← c.self.view_is) c.self.invariant.forest in
    let parent : parent_of c.args.self.now.scopes c.loop-symbol.current ≡ None = rw (← c.self.view_is) (parent_of-read c.self.inside.scopes.items c.loop-symbol.current c.index.result c.index-in-loop-symbol.result.now _ (rw (← c.self.view_is) at c.loop-symbol.invariant.within) c.index.ensures c.index-in-loop-symbol.ensures c.in-None.is) in
    sym (c.loop-symbol.invariant.rest
    ∙ ap (first_bound c.args.self.now.bindings (name_of c.args.name)) (chain-end c.args.self.now.scopes c.loop-symbol.current forest c.loop-symbol.invariant.within parent)
    ∙ first_bound-passed c.args.self.now.bindings (name_of c.args.name) c.loop-symbol.current [] (sym c.in_default.ensures)
    ∙ first_bound-none c.args.self.now.bindings (name_of c.args.name))
