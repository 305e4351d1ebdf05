pub mod Places
pub mod Seeking
pub mod MemberWords
pub mod Looking
pub mod AcceptedSpans
