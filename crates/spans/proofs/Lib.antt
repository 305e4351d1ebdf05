pub mod SpanTests
pub mod Leads
