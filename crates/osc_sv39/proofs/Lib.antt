pub mod FlagTests
pub mod EntriesBack
mod Numbers
