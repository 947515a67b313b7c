mod ConditionLaws
mod KnownShapes
mod Shallow
