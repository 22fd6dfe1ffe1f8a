-- The laws that hold of the ordering by its definition alone.
pub mod Subterm
pub mod Laws
pub mod Context
pub mod Accessible
