-- Groups and runs.
pub mod Grouped
pub mod StandLaws
pub mod GroupedLaws
pub mod FinishLaws
pub mod EndLaws
pub mod TopLaws
pub mod GroupLaws
pub mod NeedLaws
pub mod RunLaws
