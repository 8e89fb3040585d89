pub mod Built
pub mod Telling
pub mod Meaning
pub use Rattle.report_answers.specs.Found
pub use Rattle.report_answers.specs.Report
pub use Rattle.report_answers.specs.Requests
pub use Rattle.report_answers.specs.Codes
