use Rattle.renamer.proofs.analysed.Analysed.symbol_at.Goals as goal

pub returns : goal.returns
returns c = c.symbol_at.ensures c.args.self.now.scoping.now
