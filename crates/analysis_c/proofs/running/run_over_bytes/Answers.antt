use Rattle.std.proofs.Common.{◌∙◌, ap, map, string_bytes, inl}
use Rattle.std.specs.Str.Lines.{lines}
use Rattle.report_ends.specs.Memory.{sure_held}
use Rattle.analysis_c.proofs.Runs.{ran_from_empty}
use Rattle.analysis_c.proofs.running.run_over_bytes.Goals as goal

pub returns : goal.returns
returns c = inl (
  c.deref.result.now,
  c.in-Ok.ensures.cases.1,
  ap (map string_bytes) c.deref.ensures.value ∙ (c.in-Ok-words_of.ensures ∙ ap lines c.in-Ok.ensures.cases.0),
  ran_from_empty c.new.result.left.now c.args.tree.now c.run.new.source.left.now (sure_held c.args.out.now) (sure_held c.run.new.out) (sure_held c.args.errs.now) (sure_held c.run.new.errs) c.deref.result.now c.run.result
      c.new.ensures c.requires.out_empty c.requires.errs_empty c.run.ensures.means c.run.ensures.complete c.run.ensures.usage,
)
