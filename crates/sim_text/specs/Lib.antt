pub mod Serving
pub mod ScriptRun
pub mod Answering
