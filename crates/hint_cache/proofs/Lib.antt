pub mod FreeBits
pub mod Keys
pub mod Listing
pub mod Numbers
pub mod Ones
pub mod Pages
pub mod Tops
pub mod WordPlaces
