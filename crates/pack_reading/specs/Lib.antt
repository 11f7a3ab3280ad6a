pub mod Errors
pub mod Kept
pub mod Scans
pub mod Shows
pub mod Files
pub mod Lengths
