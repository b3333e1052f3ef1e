mod LookLaws
mod MarkLaws
