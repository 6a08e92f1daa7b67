pub mod Cursors
pub mod Faults
pub mod FirstFault
pub mod Numbers
pub mod Spelling
