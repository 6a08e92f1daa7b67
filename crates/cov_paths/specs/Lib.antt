pub mod Arguments
pub mod Found
pub mod Items
pub mod Scopes
pub mod Targets
