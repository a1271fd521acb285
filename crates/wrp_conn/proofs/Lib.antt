-- Laws of parts that are shrunk, of the net of a point between them, and of the cuts that a point
-- breaks.
pub mod Arcs
pub mod Streets
pub mod Conns
pub mod Records
pub mod Points
pub mod Places
pub mod Marks
pub mod Cuts
pub mod Nodes
pub mod Connected
pub mod Sides
