-- The words of a text, and trees that can be written
pub mod Words
pub mod Scanning
pub mod Sound
-- One text for trees that are the same
pub mod Bares
pub mod Kept
-- The text lexes to its words
pub mod Lexes
pub mod LexesTree
-- The words are read as the tree
pub mod Stands
pub mod Rereading
pub mod RereadingTree
pub mod RereadingProgram
-- What is read can be written, in no more tokens
pub mod Spelling
pub mod Yields
pub mod SoundReading
pub mod SoundTree
pub mod Again
-- Checking
pub mod Checks
-- Tokens without two parentheses
pub mod Weights
pub mod Separating
pub mod Joining
pub mod Needless
-- Calls
pub mod Larger
-- What is claimed
pub mod Proved
