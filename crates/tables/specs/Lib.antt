pub mod Table
pub mod Term
