-- A run as a call.
pub mod Ran
pub mod RanLaws
pub mod LentLaws
pub mod LoanLaws
pub mod CallLaws
