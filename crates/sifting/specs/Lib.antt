-- Sifting over arrays alone (Arrays), as a loop over the vertices (Sweeps) and over rounds (Settling), and that this is sifting of the layout (Layouts).
pub mod Arrays
pub mod Sweeps
pub mod Settling
pub mod Layouts
