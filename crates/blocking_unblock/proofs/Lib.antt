mod Crossings
mod FirstRounds
mod Loans
mod Replies
mod Rounds
mod Standing
mod Quick
