pub mod Name
pub mod Rule
pub mod Info
