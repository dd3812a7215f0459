pub mod Printed
pub mod OneLine
