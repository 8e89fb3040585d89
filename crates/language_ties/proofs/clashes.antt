-- Variables that clash.
pub mod UntoldClash
