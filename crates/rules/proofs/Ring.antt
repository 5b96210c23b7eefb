-- Laws of what an image means, on lists of views and entries: age, states, the value of an ID, live values, room.
pub mod Order
pub mod History
pub mod States
pub mod Events
pub mod LiveBySector
pub mod Changes
pub mod Live
pub mod Turns
pub mod Fits
pub mod Newest
