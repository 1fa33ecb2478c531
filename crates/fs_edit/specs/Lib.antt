pub mod ArrayChanges
pub mod Arrays
pub mod Below
pub mod Closing
pub mod Falls
pub mod FieldChange
pub mod Numbers
pub mod OpenView
