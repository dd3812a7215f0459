mod EveryCall
mod Grows
mod RoundTrips
mod Refusals
