-- Laws of terms and positions.
pub mod Directions
pub mod Induction
pub mod Position
pub mod Subterms
pub mod Limits
pub mod Positions
pub mod View
pub mod Prefix
pub mod Append
pub mod Sizes
pub mod Stored
pub mod Variables
pub mod Ground
pub mod Spelled
pub mod Symbols
pub mod Replace
pub mod Placed
