pub mod Codes
pub mod Lines
pub mod Parts
pub mod Pieces
pub mod Items
pub mod Writing
pub mod Nothing
