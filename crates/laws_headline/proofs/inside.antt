pub mod Stopped
pub mod Entered
pub mod Recovering
