pub mod Printed
pub mod Products
pub mod OneLine
