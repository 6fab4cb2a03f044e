pub mod NamedCoresLaws
