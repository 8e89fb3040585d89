-- What the report is asked.
use Rattle.report_answers.specs.Requests.{plain_request, asking}
use Rattle.report_answers.specs.declared.request.Request.{Request}
use Rattle.report_answers.specs.declared.word.Word.TheVariants.{Check}

-- what the word `--check` alone asks for
abbrev pub check_request : Request
check_request = asking Check plain_request
