-- Lists of bytes.
pub use Rattle.gf2.specs.Coordinates.{Bytes}
