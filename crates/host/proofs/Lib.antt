pub mod InPlace
pub mod Saying
pub mod Walking
