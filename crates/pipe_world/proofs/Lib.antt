pub mod RowByRow
pub mod Tables
pub mod KeyLemmas
pub mod BlankLists
