pub mod Network
pub mod Decision
pub mod Advertising
pub mod Reports
pub mod Tracing
pub mod Machine
pub mod Histories
