mod ReadFiles
mod Limits
mod Reading
mod ScriptLines
