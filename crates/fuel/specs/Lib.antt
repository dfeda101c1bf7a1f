-- What the contracts of `fuel` cite, the laws of it, and rows of the test board.
pub mod Fuels
pub mod FuelLaws
pub mod Loans
pub mod LoanLaws
pub mod Rows
