-- What the functions that set a global or a builtin do to cells (Settings), and that it is what the machine's definitions say (Answers).
pub mod Settings
pub mod SettingLaws
pub mod Answers
