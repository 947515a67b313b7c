pub mod Listings
pub mod Asked
pub mod Sizes
pub mod SizeForms
pub mod Laws
