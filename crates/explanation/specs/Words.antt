-- The declared types and their cases, passed on under their own names.
use Rattle.std.specs.Prelude.{ℕ, Option}
pub use Rattle.std.specs.Prelude.{Some, None}
pub use Rattle.words.specs.declared.Piece.{Piece}

-- The trade that is asked for, or none: then each of them is.
abbrev pub Wanted : Type 0
Wanted = Option ℕ
