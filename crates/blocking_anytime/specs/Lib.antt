pub mod Closes
pub mod Loans
