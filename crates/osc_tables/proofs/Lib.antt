pub mod PagePlaces
pub mod TablePlaces
pub mod KeptFacts
pub mod Pieces
pub mod Canonical
pub mod KeptChanges
pub mod Linked
pub mod Copies
