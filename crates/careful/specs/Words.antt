-- The declared types and their cases, passed on under their own names.
use Rattle.std.specs.Prelude.{Option}
pub use Rattle.std.specs.Prelude.{Some, None}
pub use Rattle.facts.specs.declared.Mills.{Mills}
pub use Rattle.careful.specs.declared.Warning.{Warning}
pub use Rattle.careful.specs.declared.Cautions.{Cautions}

-- A warning, or none.
abbrev pub Caution : Type 0
Caution = Option Warning
