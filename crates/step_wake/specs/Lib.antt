-- What waking a sleeper asks and does, as the contracts cite it.
pub mod Contract
