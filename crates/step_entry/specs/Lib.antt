-- What a step over one entry asks and does, as the contracts cite it.
pub mod Contract
