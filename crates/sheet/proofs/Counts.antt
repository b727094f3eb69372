-- What is written and counted over a sheet: 96 bytes for each ruled case, 12 for each refused one, and each case is one of the two.
use Prim.Native.Nat.{ℕ, zero, suc, ◌+◌, ◌-◌, ◌*◌, ◌≤◌}
use mathlib.Core.Path.{◌≡◌, refl}
use mathlib.Core.List.{List}
use mathlib.Core.Logic.{⊎_elim}
use native.Mathlib.Omega.{arith}
use lib.ListN.{length, length-append}
use Rattle.wire.specs.Laid.{row}
use Rattle.cases.specs.Cases.{reading_of}
use Rattle.sheet.specs.Sheet.{case_at, entry_of, ruled_in}
use Rattle.sheet.proofs.Entries.{entry_length, one_most}

module _ (s : List ℕ) where
  pub ruled_within : (n : ℕ) → ruled_in s n ≤ n
  unfolding ruled_in
  ruled_within zero = omega arith
  ruled_within (suc n) = omega (arith, ruled_within n, one_most n (reading_of (case_at s n)))

  pub written_counts : (n : ℕ) → length (row (entry_of s) n) ≡ 96 * ruled_in s n + 12 * (n - ruled_in s n)
  unfolding row ruled_in
  written_counts zero = refl
  written_counts (suc n) =
      let most = ruled_within n in
      let before = written_counts n in
      let longer = length-append (row (entry_of s) n) (entry_of s n) in
      ⊎_elim (λ e. omega arith) (λ e. omega arith) (entry_length n (reading_of (case_at s n)))
