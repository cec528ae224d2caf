pub mod RowPlaces
pub mod RowOrders
pub mod IssueLaws
pub mod StandingRows
pub mod RoundFound
pub mod RoundStanding
