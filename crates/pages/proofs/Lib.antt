pub mod Numbers
pub mod Filled
pub mod Gathering
pub mod Standing
pub mod Opening
pub mod Laying
mod PageWritten
