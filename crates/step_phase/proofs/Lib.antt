-- Laws that the proofs share.
mod Phases
