-- What plans cost.
pub mod Counted
pub mod CountedLaws
pub mod ReadLaws
pub mod PlanLaws
pub mod Judged
