-- What document 01 says, as definitions that compute, one file a heading. `Notation` is the only file below them.
pub mod Notation
pub mod Ground
pub mod Checksum
pub mod Entry
pub mod Look
pub mod Reading
pub mod Meaning
pub mod Stores
pub mod Calls
pub mod Demands
