-- What closes a slice.
pub mod Closed
pub mod Results
pub mod CallLaws
pub mod ReturnLaws
pub mod CallbackLaws
pub mod CloseLaws
