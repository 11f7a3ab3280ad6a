mod Closings
mod Entered
mod FirstPage
pub mod Framing
mod Guards
mod Keeping
mod Map
mod Preparings
mod OpenErrors
mod Opened
mod PagesRead
mod Puts
mod Readings
mod Steps
mod SystemWords
mod Texts
mod Writings
