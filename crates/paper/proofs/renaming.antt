-- The renaming law: a record and its renamed record are judged alike. Leans on basics and walks.
pub mod Rename
pub mod Renaming
pub mod Names
pub mod RenamingTails
pub mod RenamingSizes
pub mod RenamingBases
pub mod RenamingSpans
pub mod RenamingLayout
