pub mod Rows
pub mod Loans
