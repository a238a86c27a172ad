-- The field and the substitution of FIPS 197 (Field, SBox), and what the code's tables hold (Tables).
pub mod Field
pub mod SBox
pub mod Tables
