-- ByCharacters: the lexer over a source's bytes gives the tokens of the lexer over its characters.
-- Encoding: the encodings of scalar values are the sequences of table 3-7. Decode: well-formed sources are the bytes of texts.
-- Spelling, Tests: the bytes of a character, and the lexer's tests on them. Agree, AgreeQuoted, AgreeNext: the lexer's functions
-- say of the bytes what they say of the characters. Quote: lex_quoted in the form of lexer.rs.
pub mod Encoding
pub mod Decode
pub mod Spelling
pub mod Tests
pub mod Agree
pub mod AgreeQuoted
pub mod Quote
pub mod AgreeNext
pub mod ByCharacters
