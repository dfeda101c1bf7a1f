-- Loans of which the front is used; what every call finds in memory that is in form.
pub mod Loans
pub mod LoanLaws
pub mod EntryLaws
