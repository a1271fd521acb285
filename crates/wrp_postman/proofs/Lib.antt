pub mod Laws
pub mod Reading
pub mod ToldStatuses
pub mod Texts
pub mod Solutions
pub mod Numbers
