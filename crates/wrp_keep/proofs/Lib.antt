pub mod Joining
pub mod Holding
pub mod Going
pub mod FirstPayload
pub mod LogLines
pub mod PayloadLines
pub mod LoggedRecords
