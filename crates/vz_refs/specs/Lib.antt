pub mod Referring
pub mod Seated
pub mod Indexing
pub mod Lasting
pub mod Noted
pub mod Meaning
