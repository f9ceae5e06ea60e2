pub mod Acted
