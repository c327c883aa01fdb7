-- The definitions that the contracts of this crate cite, beside those of the layers.
pub mod Face
