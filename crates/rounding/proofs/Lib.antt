pub mod Every
pub mod First
pub mod Optional
pub mod Powers
pub mod Rounding
pub mod Settled
pub mod Tests
