pub mod CallTableLaws
pub mod FunctionIdLaws
pub mod FunctionIndexLaws
