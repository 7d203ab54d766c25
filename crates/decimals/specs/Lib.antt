-- Numbers in decimal: how the kit's digits are the model's, and how many there are.
pub mod Decimals
