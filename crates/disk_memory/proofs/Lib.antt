mod Adding
mod Counting
mod Failing
mod Forming
mod Keeping
mod Reading
