-- What is true of the in-order desk: the laws of its layout, the channel law, and the demands.
pub mod StampLaws
pub mod LinkLaws
pub mod Channels
pub mod OrderedSlots
pub mod OrderedLaws
pub mod OrderedWords
pub mod PairLaws
pub mod OrderedRows
pub mod OrderedHistory
pub mod OrderedGuard
pub mod OrderedFlight
pub mod OrderedQueues
pub mod TheOrderedDesk
pub mod OrderedCases
