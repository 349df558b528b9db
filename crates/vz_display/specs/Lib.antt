pub mod Displayed
