-- A right count stays right where a layout is rearranged (Candidates, Calls), one exchange of the walk (Walk), and enough rounds of the call settle (Enough).
pub mod Candidates
pub mod Walk
pub mod Calls
pub mod Enough
