pub mod SameForms
