-- The bench sheet's rows marked P.
pub mod BenchSheet
