-- The tree on the card, in the order of document 01: numbers as bytes, the layout, the nodes, labels and messages, the cards that format,
-- wipe and write leave and a write's labels alone, the ranges, the limits, what each call does, that a wipe looks at no byte, and that
-- nothing but what is counted is tagged.
pub mod Numbers
pub mod Layout
pub mod Nodes
pub mod Labels
pub mod Card
pub mod Ranges
pub mod Answer
pub mod Limits
pub mod Tests
pub mod Calls
pub mod Blind
pub mod Enough
