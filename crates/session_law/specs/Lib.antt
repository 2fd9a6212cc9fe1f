pub mod RefusalLaw
pub mod RouteLaws
pub mod SessionLaw
