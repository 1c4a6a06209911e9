-- What the contracts of this crate cite.
pub mod Lines
pub mod Numbers
pub mod Views
pub mod Grammar
pub mod Faults
pub mod FaultPlaces
pub mod FaultLines
pub mod Layout
pub mod Streams
pub mod Examples
pub mod FileLines
pub mod Fed
pub mod Keeps
pub mod Reading
pub mod Internal
