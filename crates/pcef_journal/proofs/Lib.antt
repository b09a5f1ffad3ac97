pub mod LaneEnds
pub mod Present
