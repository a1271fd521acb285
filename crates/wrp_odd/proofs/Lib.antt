-- Laws of odd cuts, for the crate's own proofs and the crates above.
pub mod ClassTallies
pub mod Components
pub mod OddSets
pub mod Records
pub mod Finding
pub mod Classes
pub mod ClassCuts
pub mod Singles
