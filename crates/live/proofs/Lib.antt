-- What callers learn of live values and of the room for an entry, and what the proofs of the functions share.
pub mod Counting
pub mod LiveLaws
pub mod RenewedLaws
pub mod RenewedMarks
pub mod Passing
pub mod FitLaws
pub mod LiveEntries
pub mod LiveNeeds
pub mod Fitting
