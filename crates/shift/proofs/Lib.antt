pub mod RaisedWords
pub mod Entries
pub mod RaisedRecords
pub mod MadeHeaders
