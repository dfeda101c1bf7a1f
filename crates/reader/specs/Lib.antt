pub mod Every
pub mod Rules
pub mod RulesLaws
pub mod CountsLaws
pub mod CodeLaws
pub mod Reads
