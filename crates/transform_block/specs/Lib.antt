pub mod TransformBlock
pub mod Given
