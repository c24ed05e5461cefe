pub mod CallBytes
pub mod CallOrders
pub mod Desks
pub mod Books
