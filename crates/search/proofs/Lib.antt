pub mod Stepping
pub mod Turns
pub mod QueuePaths
pub mod Ending
pub mod Traces
pub mod RecordsPut
