-- What belongs to no one function: laws on plain values.
pub mod ListLaws
pub mod AccountTold
