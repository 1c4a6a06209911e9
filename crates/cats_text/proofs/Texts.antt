-- Whole texts: the machine gives what the definitions say.
pub mod FirstFaults
pub mod FaultKinds
pub mod MachineAnswers
pub mod FirstWords
pub mod FirstPlaces
