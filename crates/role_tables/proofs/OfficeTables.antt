pub mod Texts
pub mod Changes
pub mod Making
pub mod Staging
pub mod EmptyOffice
pub mod Looking
pub mod Lists
pub mod There
