pub mod Claims
pub mod Covering
pub mod Places
pub mod Proved
pub mod Refuted
pub mod Truths
pub mod Vacuous
pub mod Valid
