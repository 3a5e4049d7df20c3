-- What the session player answers, as a definition, and what is promised of the text that it prints.
pub mod Contract
pub mod Claims
