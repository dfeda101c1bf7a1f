-- An answer of the host, once its call is entered.
pub mod Outcomes
pub mod Replies
pub mod LeftLaws
pub mod ReplyLaws
pub mod AnswerLaws
