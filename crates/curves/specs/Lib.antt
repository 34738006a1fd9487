-- Published: operands from published digits. Curve: the equation of a curve.
pub mod Published
pub mod Curve
