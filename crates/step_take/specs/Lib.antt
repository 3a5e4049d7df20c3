-- What a step that takes a record asks and does, as the contracts cite it.
pub mod Contract
