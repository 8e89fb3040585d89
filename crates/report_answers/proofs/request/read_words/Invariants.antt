use Rattle.std.proofs.Common.{◌≡◌, ◌≤◌, IfSome, length}
use Rattle.report_answers.specs.Requests.{with_words, request_of}
use Rattle.report_answers.proofs.request.read_words.Given as goal

abbrev pub invariant-loop-text : goal.invariant-loop-text
invariant-loop-text l = record {
  rest : with_words l.request l.rest ≡ request_of l.words;
  most : IfSome l.request.make (λ count. count ≤ 100000);
}

abbrev pub decreases-loop-text : goal.decreases-loop-text
decreases-loop-text l = length l.rest
