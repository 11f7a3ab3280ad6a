pub mod FreeLists
pub mod Silent
pub mod Tables
