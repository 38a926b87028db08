pub mod Passage
pub mod Event
pub mod Passing
pub mod View
