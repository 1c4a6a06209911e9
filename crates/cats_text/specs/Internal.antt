-- What the contracts of private functions cite, and the facts that private types keep. No public contract rests on
-- them.
pub mod Finding
pub mod LeadingToken
pub mod Kept
pub mod Machine
pub mod Marks
pub mod Parsing
pub mod Places
pub mod Progress
pub mod Reading
pub mod Returns
pub mod Scanning
