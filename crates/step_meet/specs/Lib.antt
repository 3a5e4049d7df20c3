-- What a step that comes to another's record asks and does, as the contracts cite it.
pub mod Contract
