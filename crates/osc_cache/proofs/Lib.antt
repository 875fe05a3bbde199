pub mod SlotFacts
