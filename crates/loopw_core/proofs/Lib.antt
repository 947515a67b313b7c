mod Stopped
mod Counts
mod Endings
mod NoForms
