-- The join: its two renamings, its grounds of refusal, grouping and neutrality. Leans on renaming and gates.
pub mod Joining
pub mod JoinFits
pub mod JoinRefusals
pub mod FullJoins
pub mod Grouping
pub mod Neutral
