pub mod EightRecords
pub mod OnPages
