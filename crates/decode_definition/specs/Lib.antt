pub mod Decode
pub mod RefusalOrders
pub mod TwoDecodings
