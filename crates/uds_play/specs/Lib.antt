pub mod FlowLines
pub mod Pace
pub mod Source
