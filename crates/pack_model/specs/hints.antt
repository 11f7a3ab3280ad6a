pub mod Links
pub mod Tables
pub mod Truth
pub mod Handy
pub mod HintWords
pub mod Misled
pub mod Sources
