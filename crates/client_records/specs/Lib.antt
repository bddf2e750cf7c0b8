pub mod Fields
pub mod Kinds
pub mod Multi
pub mod Requests
pub mod Responses
