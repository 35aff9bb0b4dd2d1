pub mod Charges
pub mod Totals
pub mod Accounts
pub mod Laws
