pub mod RoundsOf
pub mod RowsOf
pub mod Finding
pub mod Order
pub mod Record
pub mod Kept
pub mod Examples
