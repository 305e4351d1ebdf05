pub mod MembersLeft
pub mod OtherTests
pub mod EntriesLeft
pub mod LayoutKinds
pub mod SizesTold
pub mod Telling
