mod Examples
pub mod ApartLemmas
pub mod Joining
pub mod EachLemmas
pub mod LoginLemmas
pub mod LookLemmas
pub mod MadeParts
pub mod MomentLemmas
pub mod PartLemmas
pub mod PlaceLemmas
pub mod ReadBack
pub mod SaidLemmas
pub mod SkipLemmas
pub mod TextLemmas
pub mod ToldMoments
pub mod TrimLemmas
pub mod ValueLemmas
pub mod Writable
