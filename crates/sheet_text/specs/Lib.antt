pub mod Listings
pub mod Sheet
