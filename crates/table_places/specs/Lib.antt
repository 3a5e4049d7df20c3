-- What the contracts of a task's row cite. No proof stands here.
pub mod Places
