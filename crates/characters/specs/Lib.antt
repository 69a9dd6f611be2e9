-- A source as characters, and that the lexer over its bytes gives the tokens of the lexer over its characters.
-- Text: a text is a list of characters, and its bytes. CharLexer: lexer.rs over characters. Encoding: what is read off a character's
-- bytes. ByCharacters: what the theorem says, which is proved in proofs/. These are the definitions. Examples: computed.
pub mod Text
pub mod CharLexer
pub mod Encoding
pub mod ByCharacters
pub mod Examples
