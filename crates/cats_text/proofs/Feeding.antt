-- Pieces: a reader answers by all bytes that came. A stream's answers follow from the reader's.
pub mod Streams
pub mod Files
pub mod Pieces
pub mod Finding
