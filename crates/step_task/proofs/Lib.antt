-- Laws that the proofs share.
mod Whole
