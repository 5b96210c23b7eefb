-- The rows, from a fresh store up, gathered in `Sheet`.
pub mod Clear
pub mod ClearTurn
pub mod Fresh
pub mod LongestValue
pub mod Filling
pub mod Overflow
pub mod FullSector
pub mod FourthWrite
pub mod CutFourthWrite
pub mod Rows
pub mod Sheet
pub mod Applied
