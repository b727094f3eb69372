-- The declared types that forms speak of, and their cases, passed on under their own names.
pub use Rattle.std.specs.Prelude.{Some, None}
pub use Rattle.facts.specs.declared.Mills.{Mills}
pub use Rattle.facts.specs.Words.{Price}
pub use Rattle.facts.specs.declared.Form.{Form}
pub use Rattle.facts.specs.declared.Form.TheVariants.{One, Two}
