pub mod Attached
pub mod Changes
pub mod Fitting
pub mod Holding
pub mod Naming
pub mod Outs
pub mod Rising
pub mod Small
