pub mod Widths
pub mod Rows
pub mod Codes
pub mod Encoding
pub mod Decoding
pub mod Formed
pub mod Plans
pub mod Growing
