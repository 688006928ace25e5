-- Laws on the reading and the grammar, which proofs above cite.
pub mod Frame
pub mod Rounds
pub mod Conserved
pub mod Few
pub mod Places
pub mod ReadingMarks
pub mod Marks
pub mod SoundTokens
pub mod GrammarSound
pub mod CompleteTokens
pub mod GrammarComplete
pub mod Promise
pub mod GrammarWider
pub mod GrammarMarks
pub mod Examples
