pub mod Single
pub mod SingleLemmas
pub mod Row
pub mod RowLemmas
