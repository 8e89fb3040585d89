use Rattle.std.proofs.Common.{◌≡◌, ◌<◌, ◌^◌, drop}
use Rattle.report_answers.specs.Requests.{digits_from}
use Rattle.report_answers.proofs.request.read_digits.Given as goal

abbrev pub invariant-loop-digit : goal.invariant-loop-digit
invariant-loop-digit l = record {
  same : digits_from l.value (drop l.digit-index l.digits) ≡ digits_from 0 l.digits;
  small : l.value < 10 ^ l.digit-index;
}
