pub mod AfterChanges
pub mod AfterLaws
pub mod Arrays
pub mod BatchLaws
pub mod Fields
pub mod Names
pub mod Locally
pub mod Numbers
pub mod Overlaps
pub mod StageChanges
pub mod Stages
pub mod WriteLaws
mod Unmet
