-- Parts: the size part and the bits of the pairs, one behind the other. Weights: the check of the weights.
pub mod Parts
pub mod Weights
