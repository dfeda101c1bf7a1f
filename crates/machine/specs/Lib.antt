-- The machine. What a reader must believe: Values, Machine, Opcodes, Calls.
pub mod Values
pub mod Machine
pub mod Opcodes
pub mod Calls
-- Demand 3: the statement. The theorem is the end of proofs/Theorem; `demands` has the same of the exported functions.
pub mod Demand
-- The words of the laws in proofs/, each file for its namesake there: of steps, of runs (ticks, pauses, endings), of slices and of one group; machines in form (Form has the form that refusal 7 tests); refusals; what a step does not read.
pub mod StepLaws
pub mod RunLaws
pub mod SliceLaws
pub mod Group
pub mod Formed
pub mod FormedLaws
pub mod Form
pub mod ValueLaws
pub mod FormRules
pub mod FormActions
pub mod FormLaws
pub mod Refusals
pub mod RequestRefusals
pub mod Local
-- What rows and the oracle's answers are shown as.
pub mod Seen
