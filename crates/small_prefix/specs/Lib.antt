-- The first vertices of an order as the code holds them: one more behind them, and what that is in the list of all orders.
pub mod Prefixes
