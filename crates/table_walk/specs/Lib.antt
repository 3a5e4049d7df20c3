-- What the contracts of the walk cite. No proof stands here.
pub mod Walk
