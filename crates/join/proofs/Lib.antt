pub mod JoinedParts
pub mod JoinAnswers
pub mod Demands
pub mod Bracketing
