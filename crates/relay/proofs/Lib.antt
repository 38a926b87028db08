pub mod Growing
pub mod Over
pub mod Parts
pub mod Passages
pub mod Reached
pub mod Steps
