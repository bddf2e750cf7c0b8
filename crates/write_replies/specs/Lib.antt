pub mod Replies
pub mod Results
