-- Examples
pub mod Computing
pub mod Examples
pub mod Readings
pub mod Rows
pub mod TokenExamples
pub mod GrammarExamples
pub mod OperatorExamples
pub mod StateExamples
pub mod PictureExamples
pub mod RunExamples
pub mod ProcedureExamples
pub mod GroupExamples
pub mod CallExamples
-- Laws of the definitions
pub mod IntegerLaws
pub mod FigureLaws
pub mod KeyLaws
pub mod DecimalLaws
pub mod ByteLaws
pub mod TokenLaws
pub mod GrammarLaws
pub mod StateLaws
pub mod OperatorLaws
pub mod PictureLaws
pub mod BookLaws
pub mod SliceLaws
