-- The canonical auction: its atoms, how its bidders are counted, and that it is the same auction and no larger.
pub mod Atoms
pub mod Counting
pub mod Sames
pub mod Smaller
pub mod Least
