-- The declared types and their cases, passed on under their own names: the facts' that stand here, then our own.
use Rattle.std.specs.Prelude.{ℕ, Option}
pub use Rattle.std.specs.Prelude.{Some, None}
pub use Rattle.facts.specs.Words.{Price}

-- The seconds that are typed, or no time.
abbrev pub Typed : Type 0
Typed = Option ℕ
