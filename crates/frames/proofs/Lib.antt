mod CallLaws
pub mod VariableLaws
