-- Ten for each extra decimal.
pub mod Tens
