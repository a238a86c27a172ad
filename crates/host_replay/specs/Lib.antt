-- Demand 3 of what C calls: the functions as they ran, and the demand in C's own terms.
pub mod Called
pub mod Plain
