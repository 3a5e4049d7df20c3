-- What an opening answers in each case.
pub mod Opens
