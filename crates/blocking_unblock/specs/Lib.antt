pub mod Lenders
pub mod Loans
pub mod Owners
pub mod Polls
