-- The specs that the laws cite.
pub mod Spelled
pub mod Values
pub mod Laws
pub mod SpelledPrograms
pub mod ProgramLaws
pub mod Worked
