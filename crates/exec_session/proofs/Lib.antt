pub mod Causing
mod Ending
pub mod Finding
pub mod FirstRefusals
pub mod Framing
pub mod LookedBefore
pub mod Looking
pub mod NewNaming
pub mod OrdinaryFiles
mod PackOpening
pub mod Parts
mod RootFinding
mod SerialFiles
mod Sessions
pub mod Slots
pub mod Stopping
pub mod TakingUp
pub mod Turning
