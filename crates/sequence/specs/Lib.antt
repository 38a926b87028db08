pub mod Demand
pub mod Room
pub mod Heard
pub mod History
pub mod Ledger
pub mod Cases
