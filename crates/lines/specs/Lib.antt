-- Where lines end; the line and the column of an offset; what `masm_lines` writes.
pub mod Ends
pub mod LineEnd
pub mod Places
pub mod MasmLines
pub mod JoinedLines
