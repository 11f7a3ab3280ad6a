pub mod GuardedCalls
