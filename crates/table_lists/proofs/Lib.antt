-- Laws of sets within one another, and of the lists that they tell.
pub mod Within
pub mod Lists
