pub mod SortLemmas
pub mod SetupLemmas
pub mod FitLemmas
mod SetupExamples
