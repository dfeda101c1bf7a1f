-- What a call does once it is entered.
pub mod Sent
pub mod Returned
pub mod Asked
pub mod AskedLaws
pub mod FitLaws
pub mod FinishLaws
pub mod StartLaws
pub mod SentLaws
