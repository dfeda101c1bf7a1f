-- Laws: of what is appended to a store (Appended), of what stays as it was (RestLaws), of parsed arguments (ParsedLaws), and of a frame that runs (InsideLaws).
pub mod Appended
pub mod RestLaws
pub mod ParsedLaws
pub mod InsideLaws
pub mod ErrorLaws
