-- The laws of the definitions, from the bottom up. A file says what it is for in its first line.
pub mod Basics
pub mod Computing
pub mod Terms
pub mod Format
pub mod Blocks
pub mod Ring
pub mod Due
pub mod Crash
