-- Examples, which the prover computes.
pub mod CutRows
pub mod Lines
pub mod Marks
