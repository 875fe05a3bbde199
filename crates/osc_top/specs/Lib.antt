pub mod Texts
pub mod Due
pub mod Making
pub mod Loading
pub mod Answer
pub mod Deciding
pub mod Safety
pub mod Told
