-- What is true of the word desk: bits of a word, the laws of its layout, the two desks that mean the same, and the demands.
pub mod BitLaws
pub mod WordLaws
pub mod WordTests
pub mod SameMeaning
pub mod PackLaws
pub mod OneDesk
pub mod CountLaws
pub mod TheWordDesk
pub mod WordCases
