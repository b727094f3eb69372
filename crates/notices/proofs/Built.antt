-- Stretches stored one after the other are the record, with the rest of the buffer as it was; a record has 32 bytes, an answer 96.
use Prim.Native.Nat.{ℕ, ◌≤◌}
use mathlib.Core.Path.{◌≡◌, refl, ap, ◌∙◌}
use mathlib.Core.List.{List}
use lib.ListN.{length}
use Rattle.wire.specs.Numbers.{stored}
use Rattle.wire.specs.Laid.{laid}
use Rattle.wire.proofs.Laid.{stores}
use Rattle.wire.proofs.Stored.{next}
use Rattle.codes.specs.Codes.{side_number}
use Rattle.notices.specs.Words.{Side, Ruling, Figures}
use Rattle.notices.specs.Records.{start_bytes, ruled_bytes, ruling_record, ruling_bytes, told_bytes, code_bytes, notice_record, notice_bytes, answer_records, answer_bytes}

module _ (n : Figures) (o : List ℕ) (room : 32 ≤ length o) {o₁ o₂ : List ℕ} where
  pub ruling_written : o₁ ≡ stored o 0 (start_bytes 16 n n.origin) → o₂ ≡ stored o₁ 12 (ruled_bytes n) → o₂ ≡ laid (ruling_record n) o
  unfolding ruling_record
  ruling_written head ruled = stores o₂ (ruling_record n) o (next 12 (ruled_bytes n) ruled head) room

  pub notice_written : (recipient : Side) (code other : List ℕ) {side : ℕ} {o₃ : List ℕ}
      → side ≡ side_number recipient
      → o₁ ≡ stored o 0 (start_bytes 17 n side)
      → o₂ ≡ stored o₁ 12 (told_bytes n)
      → o₃ ≡ stored o₂ 24 (code_bytes n.outcome code other)
      → o₃ ≡ laid (notice_record n recipient code other) o
  unfolding notice_record
  notice_written recipient code other {o₃ = o₃} side head told codes =
      stores o₃ (notice_record n recipient code other) o
      (next 24 (code_bytes n.outcome code other) codes (next 12 (told_bytes n) told (head ∙ ap (λ (b : ℕ). stored o 0 (start_bytes 17 n b)) side)))
      room

pub ruling_length : (r : Ruling) → length (ruling_bytes r) ≡ 32
unfolding ruling_record
ruling_length r = refl

pub notice_length : (r : Ruling) (recipient : Side) (code other : List ℕ) → length (notice_bytes r recipient code other) ≡ 32
unfolding notice_record
notice_length r recipient code other = refl

pub answer_length : (r : Ruling) (buyer seller : List ℕ) → length (answer_bytes r buyer seller) ≡ 96
unfolding answer_records ruling_record notice_record
answer_length r buyer seller = refl
