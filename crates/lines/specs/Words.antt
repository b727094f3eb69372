-- The declared type that the lines speak of, passed on under its own name.
pub use Rattle.figures.specs.declared.Figures.{Figures}
