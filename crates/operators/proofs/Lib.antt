pub mod KindLaws
mod IntegerLaws
mod ShapeLaws
mod EqualityLaws
