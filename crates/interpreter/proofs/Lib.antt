mod Going
pub mod ExpressionLaws
mod CallLaws
mod Fast
mod StatementLaws
mod LoopLaws
