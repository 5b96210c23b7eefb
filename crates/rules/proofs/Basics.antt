-- Laws of numbers and lists, and of the notation that the definitions are written in.
pub mod Xor
pub mod Lists
pub mod Parts
pub mod Places
pub mod Notation
pub mod Number
