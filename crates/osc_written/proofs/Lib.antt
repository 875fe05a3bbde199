pub mod WrittenRows
pub mod WrittenRuns
pub mod WrittenShows
pub mod WrittenGraves
