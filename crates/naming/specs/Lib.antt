pub mod RuleOf
pub mod Sections
