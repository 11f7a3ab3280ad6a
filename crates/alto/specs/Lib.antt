pub mod CommandLines
pub mod Ends
pub mod Faults
pub mod Running
