-- Units: the table in which every edge weighs 1. Light: of two weights none is above 1.
pub mod Units
pub mod Light
