-- What a load and a clear write (Fresh), and that it is what the machine's definitions say (Loading, Clearing).
pub mod Fresh
pub mod FreshLaws
pub mod Loading
pub mod Clearing
