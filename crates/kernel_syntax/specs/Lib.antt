pub mod Parts
pub mod FileParts
pub mod Refusals
pub mod Behinds
pub mod Places
pub mod Candidates
pub mod TokenTexts
pub mod Refused
