pub mod Laws
pub mod Lists
pub mod Roles
pub mod Table
pub mod WellFormed
