-- What the host answers.
pub mod Replied
pub mod Pieces
pub mod KindLaws
pub mod FitLaws
pub mod PlanLaws
