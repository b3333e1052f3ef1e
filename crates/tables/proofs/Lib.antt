pub mod KeyLaws
pub mod HashLaws
pub mod IndexLaws
pub mod EntryLaws
