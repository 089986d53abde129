pub mod ItemJobs
pub mod OpJobs
pub mod ReadJobs
pub mod SeekJobs
pub mod WriteJobs
pub mod Works
