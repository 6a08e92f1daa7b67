pub mod NameLemmas
pub mod KnownLemmas
pub mod TreeLemmas
pub mod SectionLemmas
pub mod ProgramLemmas
