pub mod Cells
pub mod PackageFound
pub mod ScriptFound
pub mod Ends
pub mod TextsFound
