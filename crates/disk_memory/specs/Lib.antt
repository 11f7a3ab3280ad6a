pub mod Adding
pub mod Failing
pub mod Making
pub mod Storing
pub mod Sure
