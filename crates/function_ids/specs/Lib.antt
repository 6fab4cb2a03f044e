pub mod CallTable
pub mod CallTableLaws
pub mod FunctionIdLaws
pub mod FunctionIds
pub mod FunctionIndexLaws
pub mod FunctionIndexes
