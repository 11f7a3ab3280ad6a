pub mod LinesAlone
mod Lines
mod Worlds
