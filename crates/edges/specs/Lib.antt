pub mod EdgeCalls
