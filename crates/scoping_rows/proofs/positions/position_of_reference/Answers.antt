use Rattle.std.proofs.Common.{rules, nat_eq, ap, ◌∙◌, option_map, sym}
use Rattle.std.proofs.iter.Yields.{fronts}
use Rattle.std.proofs.lemmas.Iterator.{YieldsList-from_slice}
use Rattle.std.proofs.lemmas.Iterator.Consumers.{YieldsList-from_copied}
use Rattle.itertools.proofs.ConsumerLemmas.{find_at-of-run}
use Rattle.scoping_rows.proofs.Found.{first_found}
use Rattle.scoping_rows.proofs.positions.position_of_reference.Goals as goal

pub returns-in_err-index : goal.returns-in_err-index
returns-in_err-index c =
    let r = c.find_position.ensures.runs in
    let slice = YieldsList-from_slice {s = c.iter.result} c.args.references.now (search rules) in
    let road = YieldsList-from_copied {steps = fronts} {s = c.copied.result} {ys = c.args.references.now} (rw c.copied.ensures.source slice) in
    let b = r.2 (nat_eq c.args.reference) (search rules) in
    let found = find_at-of-run road r.0 r.1 (nat_eq c.args.reference) _ b.0 b.1 in
    c.from_residual.ensures ∙ sym (ap (option_map (λ p. p.0)) c.in_err-index.was) ∙ ap (option_map (λ p. p.0)) found ∙ first_found (nat_eq c.args.reference) c.args.references.now

pub returns : goal.returns
returns c =
    let r = c.find_position.ensures.runs in
    let slice = YieldsList-from_slice {s = c.iter.result} c.args.references.now (search rules) in
    let road = YieldsList-from_copied {steps = fronts} {s = c.copied.result} {ys = c.args.references.now} (rw c.copied.ensures.source slice) in
    let b = r.2 (nat_eq c.args.reference) (search rules) in
    let found = find_at-of-run road r.0 r.1 (nat_eq c.args.reference) _ b.0 b.1 in
    ap (λ k. option_map (λ p. p.0) k) (sym c.in_ok-index.was) ∙ ap (option_map (λ p. p.0)) found ∙ first_found (nat_eq c.args.reference) c.args.references.now
