-- What a reader must believe of the one text of a program (request 3 of document 02).
pub mod Bare
pub mod Text
pub mod Call
