-- What the contracts of a table's parts cite. No proof stands here.
pub mod Parts
