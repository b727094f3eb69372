-- What is picked by the side is picked alike before and after it is numbered (RULE R2.6.64, R2.6.65).
use Prim.Native.Nat.{ℕ}
use mathlib.Core.Path.{◌≡◌, refl}
use Rattle.codes.specs.Codes.{kind_number}
use Rattle.parties.specs.Words.{Side, Buy, Sell, Kind}
use Rattle.parties.specs.Parties.{by_side}

-- the number of the kind in error is byte 64 or 65, by the side; that of the other party's likewise
pub kind_number_by_side : (side : Side) (buyer seller : Kind) → kind_number (by_side side buyer seller) ≡ by_side side (kind_number buyer) (kind_number seller)
kind_number_by_side Buy buyer seller = refl
kind_number_by_side Sell buyer seller = refl
