pub mod Calls
pub mod Texts
pub mod Walks
pub mod Unlimited
pub mod Always
