pub mod Declaring
