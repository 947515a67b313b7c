mod Lookups
mod Doubling
