pub mod Places
pub mod QuestionLines
pub mod SpecLines
pub mod ValueLines
pub mod MetaLines
pub mod FieldLines
pub mod Lines
