-- Where places stand: in open scopes, in some function's scope, with ways outward.
pub mod Nested
pub mod Shapes
pub mod Grounds
pub mod Routes
