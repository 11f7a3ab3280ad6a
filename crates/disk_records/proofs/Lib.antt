pub mod Bytes
pub mod Causing
pub mod Checking
pub mod FirstOnes
pub mod Framing
pub mod Growing
mod InPlace
pub mod Looking
pub mod Reals
pub mod WordBytes
