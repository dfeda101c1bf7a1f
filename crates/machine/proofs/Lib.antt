-- Demand 3: the statement is specs/Demand, the theorem the end of Theorem.
pub mod Store
pub mod DemandLaws
pub mod Kept
pub mod Theorem
-- Laws: of steps, of runs (ticks, pauses, endings), of slices and of one group; every machine reached is in form; the form that refusal 7 tests (specs/Form) is closed under the rules (FormLaws); which refusals each step can give; what a step does not read.
pub mod StepLaws
pub mod RunLaws
pub mod SliceLaws
pub mod Group
pub mod Formed
pub mod FormedLaws
pub mod ValueLaws
pub mod FormRules
pub mod FormActions
pub mod FormLaws
pub mod Refusals
pub mod RequestRefusals
pub mod Local
-- Rows that the checker computes: P1 to P12, and those that the oracle writes.
pub mod Rows
-- One history worked by the rules of Demand: row P9.
pub mod Worked
