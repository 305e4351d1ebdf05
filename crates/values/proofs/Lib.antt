-- Laws of order 3: a record's bits as numbers, and what a member says of every record.
pub mod Bits
pub mod BitNumbers
pub mod ReadBytes
pub mod Windows
pub mod SignNumbers
pub mod Negative
pub mod LongBytes
pub mod GivenValues
pub mod FoundRules
pub mod Values
pub mod Numeric
pub mod Spans
pub mod Soughts
pub mod JoinValues
pub mod ReadBench
pub mod GivenOnes
