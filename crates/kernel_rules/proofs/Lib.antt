mod SameAccesses
mod EqualPlaces
mod KeptFloors
pub mod KeptRows
