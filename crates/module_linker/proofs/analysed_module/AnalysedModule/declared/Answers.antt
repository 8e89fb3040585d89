use Rattle.module_linker.proofs.analysed_module.AnalysedModule.declared.Goals as goal

pub returns : goal.returns
returns c = c.symbol_at.ensures c.args.self.now.scoping.now
