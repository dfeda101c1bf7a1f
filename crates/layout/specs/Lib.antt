pub mod RecordsLaws
pub mod ImageLaws
pub mod Tables
pub mod Reads
