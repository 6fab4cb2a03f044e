pub mod Forms
pub mod Functions
pub mod NamedCores
pub mod NamedCoresLaws
pub mod Stateless
pub mod States
