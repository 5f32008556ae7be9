pub mod Arguments
pub mod WordOrder
