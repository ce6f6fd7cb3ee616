pub mod Views
mod Reading
mod Places
