-- State.
pub mod Devices
