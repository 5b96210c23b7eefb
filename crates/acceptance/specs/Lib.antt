-- What is claimed of the calls. Nothing here has a format, a read or a state of its own: these are `store`'s and the rules'.
pub mod Runs
pub mod Demands
