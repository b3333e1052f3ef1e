pub mod Remaking
