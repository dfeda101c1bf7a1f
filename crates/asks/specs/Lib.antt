-- What the exported functions promise (Asks); what the entry of a call comes to, and what it says of memory.
pub mod Asks
pub mod Entries
pub mod Ready
pub mod Requests
pub mod Writing
pub mod Formed
pub mod Named
