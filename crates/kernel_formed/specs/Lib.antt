pub mod Shapes
pub mod Sound
pub mod Meanings
pub mod Taken
pub mod ExpressionLaws
pub mod NameLaws
pub mod Written
pub mod Laws
