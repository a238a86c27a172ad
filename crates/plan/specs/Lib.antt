-- A write in single steps, document 02's T-03: the nodes of a plan and their places, what a plan and a put do, puts one after another, that
-- every order of the tags gives the plain write, and what the document says of a plan and of a put.
pub mod Places
pub mod Split
pub mod Puts
pub mod Orders
pub mod Rule
