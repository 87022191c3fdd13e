mod Clean
mod OfKinds
mod Lists
mod Specifiers
mod Forms
mod Attrs
mod OfExports
mod Fronts
mod Local
mod OfReaders
pub mod OfLaws
pub mod Whole
pub mod OfRuns
pub mod Takes
pub mod OfWorked
