pub mod RowLemmas
pub mod SearchLemmas
pub mod SecurityLemmas
pub mod TableLemmas
pub mod DelayLemmas
pub mod AnswerLemmas
