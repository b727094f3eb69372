-- Written and read again gives the same facts; read and written again gives the same bytes (RULE R13.0.2): first of the definitions, then,
-- over the promises as Rattle reads them from the contracts, of every two calls. What the types give, bytes below 256 and codes of four
-- bytes, the definitions ask for (`AreBytes`, `Held`); the calls need not, since the promises hand it on.
use Rattle.std.specs.Prelude.{ℕ, ◌≤◌, ◌≡◌, List, length, take}
use Rattle.std.proofs.Common.{sym, ap, ◌∙◌}
use contract.Lifetimes.{Lfts}
use Rattle.std.specs.Borrow.{Bor, MutBor}
use Rattle.wire.specs.Laid.{laid}
use Rattle.wire.specs.Numbers.{AreBytes}
use Rattle.forms.specs.Forms.{form_length}
use Rattle.refusals.specs.Tests.{fault_of}
use Rattle.cases.specs.Words.{Facts}
use Rattle.cases.specs.declared.Reading.{Reading}
use Rattle.cases.specs.Cases.{Formed, accepted, reading_of, writing_of, Held}
use Rattle.cases.proofs as cases
use Rattle.round_trips.proofs.RoundTrips as floor

-- Facts that can be written, written over the start of any buffer and read again from there, are the same facts.
pub written_read : (f : Facts) (buffer : List ℕ) → Held f → (writing_of f (length buffer)).0 ≡ 0
    → reading_of (take (form_length f.form) (laid (writing_of f (length buffer)).1 buffer)) ≡ accepted f
written_read = floor.written_read

-- Bytes that are accepted, read and written again into any buffer with room for them, are the same bytes.
pub read_written : (case : List ℕ) (room : ℕ) → AreBytes case → (reading_of case).refusal ≡ 0 → length case ≤ room
    → writing_of (reading_of case).facts room ≡ (0, case)
read_written = floor.read_written

-- Every accepted byte string passes the tests 1 to 3, and its facts pass the tests 4 to 9.
pub accepted_passes : (case : List ℕ) → (reading_of case).refusal ≡ 0 → Formed case × (fault_of (reading_of case).facts ≡ 0)
accepted_passes = floor.accepted_passes

-- ---- so every call

module _ (κ κ' : Lfts 1) (s s' : Bor (List ℕ)) (out out' : MutBor (List ℕ)) (r : Reading) (n : ℕ) where
  -- `write_case`, and then `read_case` on the bytes that it left: accepted, and the facts are those that were written.
  pub calls_written_read : (f f' : Facts) → cases.write_case.Reads.Post κ (f, (out, tt)) n (f', (out', tt)) → n ≡ 0
      → s.now ≡ take (form_length f.form) out'.now → cases.read_case.Reads.Post κ' (s, tt) r (s', tt) → r ≡ accepted f
  calls_written_read f f' wrote done left read =
      read.0 ∙ ap reading_of (left ∙ ap (take (form_length f.form)) wrote.1) ∙ written_read f out.now wrote.2 (sym wrote.0 ∙ done)

  -- `read_case`, and then `write_case` of what it read: written, where there is room, and the bytes are those that were read.
  pub calls_read_written : (f' : Facts) → cases.read_case.Reads.Post κ (s, tt) r (s', tt) → r.refusal ≡ 0
      → cases.write_case.Reads.Post κ' (r.facts, (out, tt)) n (f', (out', tt)) → length s.now ≤ length out.now
      → (n ≡ 0) × (out'.now ≡ laid s.now out.now)
  calls_read_written f' read done wrote fits =
      let room = length out.now in
      let good : (reading_of s.now).refusal ≡ 0 = ap (λ (q : Reading). q.refusal) (sym read.0) ∙ done in
      let again : writing_of r.facts room ≡ (0, s.now) =
      ap (λ (q : Reading). writing_of q.facts room) read.0 ∙ read_written s.now room read.1 good fits in
      (wrote.0 ∙ ap (λ (p : ℕ × List ℕ). p.0) again, wrote.1 ∙ ap (λ (p : ℕ × List ℕ). laid p.1 out.now) again)
