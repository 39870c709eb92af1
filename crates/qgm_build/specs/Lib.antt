pub mod Laying
pub mod Block
pub mod Parts
pub mod Schema
pub mod Valid
