pub mod Belonging
mod Causing
mod Filling
mod Given
mod Naming
mod Padding
pub mod Passing
mod Placing
mod Reading
mod Rising
pub mod Standing
pub mod Staying
