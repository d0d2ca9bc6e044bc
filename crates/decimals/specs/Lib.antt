-- Decimal digits: what the contracts cite, and the round trip.
pub mod Numbers
pub mod Decimal
pub mod RoundTrip
pub mod Stored
