pub mod CalendarLemmas
pub mod FractionLemmas
pub mod PieceLemmas
pub mod WrittenLemmas
pub mod LawLemmas
pub mod EveryMoment
