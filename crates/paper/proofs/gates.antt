-- The gate: accepted exactly, the smallest report, what each answer means, what is left in the slices. Leans on bytes and walks.
pub mod Gates
pub mod Numbers
pub mod Acceptance
pub mod Reports
pub mod Wheres
pub mod Earlies
pub mod Answered
pub mod SizeAsked
pub mod Looks
