mod Options
mod WordOrder
