-- What the step asks and does, as the contracts cite it.
pub mod Contract
