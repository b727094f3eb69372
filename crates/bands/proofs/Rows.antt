-- A row of the table serves the prices that no row before it does: where TP is at most its top, it is the one picked; where TP is above,
-- the one picked is that of the rows after it.
use Prim.Native.Nat.{ℕ, ◌≤◌, ◌<◌}
use mathlib.Core.Path.{◌≡◌}
use lib.Dec.{leb}
use borrow.Author.Tests.{le-leb, lt-leb}
use Rattle.wire.specs.Tests.{pick}
use Rattle.bands.specs.Words.{Band}

module _ (tp top : ℕ) (row rest : Band) where
  pub serves : tp ≤ top → row ≡ pick (leb tp top) row rest
  serves h = rw (le-leb tp top h)

  pub passed : (found : Band) → top < tp → found ≡ rest → found ≡ pick (leb tp top) row rest
  passed found h e = rw (lt-leb tp top h) e
