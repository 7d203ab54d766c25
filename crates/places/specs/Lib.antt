-- AllPlaces: the place of each vertex in an array. MovedPlaces: an entry moved.
pub mod AllPlaces
pub mod MovedPlaces
