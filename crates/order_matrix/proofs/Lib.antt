pub mod Entries
pub mod Mapped
pub mod Places
pub mod Roles
