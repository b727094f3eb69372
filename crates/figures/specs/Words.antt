-- The declared types that the figures speak of, passed on under their own names.
pub use Rattle.ruling.specs.declared.Ruling.{Ruling}
pub use Rattle.figures.specs.declared.Figures.{Figures}
