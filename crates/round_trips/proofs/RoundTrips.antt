-- What is proved of reading and writing a case, over the definitions that the promises of `read_case` and `write_case` cite.
use Prim.Native.Nat.{ℕ, ◌≤◌}
use mathlib.Core.Path.{◌≡◌, refl, sym, ap, ◌∙◌}
use mathlib.Core.Bool.{true}
use mathlib.Core.List.{List}
use lib.ListN.{length, take, drop}
use lib.Seq.{take_at}
use Rattle.wire.specs.Numbers.{AreBytes, number_at}
use Rattle.wire.specs.Laid.{laid}
use Rattle.codes.proofs.Codes.{side_listed, kind_listed, day_listed, agreement_listed, flag_listed}
use Rattle.forms.specs.Words.{Form, One, Two}
use Rattle.forms.specs.Heads.{pairs, is_length, known}
use Rattle.forms.specs.Forms.{form_length}
use Rattle.forms.proofs.Heads.{form_length_lem, long_as}
use Rattle.record.specs.Record.{facts_of, bytes_as, record_bytes}
use Rattle.record.proofs.Lengths.{long_as_form}
use Rattle.refusals.specs.Tests.{length_ok, head_ok, zeros_ok, lists_ok, fault_of}
use Rattle.refusals.specs.Words.{Facts}
use Rattle.cases.specs.declared.Reading.{Reading}
use Rattle.cases.specs.Cases.{Formed, accepted, reading_of, writing_of, Held}
use Rattle.cases.proofs.Laws.{formed, well_formed, accepted_form, accepted_reading, accepted_facts, facts_decide, accepted_at_lem, writes, writes_facts}
use Rattle.round_trips.proofs.Again.{sound, facts_again}
use Rattle.round_trips.proofs.Back.{bytes_back}

-- the bytes that are written have the form of a case
written_head : (form : Form) (f : Facts) → head_ok (bytes_as form f) ≡ true
unfolding head_ok number_at known pairs
written_head One f = refl
written_head (Two d) f = refl

written_formed : (f : Facts) → Formed (record_bytes f)
unfolding zeros_ok lists_ok number_at
written_formed f =
    record {
      whole = ap is_length (long_as_form f.form f) ∙ form_length_lem f.form;
      head = written_head f.form f;
      zeros = refl;
      lists = simp (side_listed, flag_listed, kind_listed, day_listed, agreement_listed);
    }

-- The bytes of facts that pass the tests are accepted, and read as these facts.
pub record_read : (f : Facts) → Held f → fault_of f ≡ 0 → reading_of (record_bytes f) ≡ accepted f
record_read f h e =
    let again = facts_again f h (sound f e) in
    accepted_at_lem (record_bytes f) (sym (facts_decide (record_bytes f) 0 f (well_formed (record_bytes f) (written_formed f)) (sym again) (sym e)))
    ∙ ap accepted again

-- Facts that can be written, written over the start of any buffer and read again from there, are the same facts.
pub written_read : (f : Facts) (o : List ℕ) → Held f → (writing_of f (length o)).0 ≡ 0
    → reading_of (take (form_length f.form) (laid (writing_of f (length o)).1 o)) ≡ accepted f
unfolding laid
written_read f o h e =
    let w = writes f (length o) e in
    let n = form_length f.form in
    ap (λ (p : ℕ × List ℕ). reading_of (take n (laid p.1 o))) (writes_facts f (length o) w.0 w.1)
    ∙ ap reading_of (take_at (record_bytes f) (drop (length (record_bytes f)) o) n (long_as_form f.form f))
    ∙ record_read f h w.1

-- room for accepted bytes is room for their form
room_for : (s : List ℕ) (room : ℕ) → length_ok s ≡ true → length s ≤ room → form_length (facts_of s).form ≤ room
unfolding facts_of
room_for s room ok h = rw (long_as s ok) at h

-- Bytes that are accepted, read and written again into any buffer with room for them, are the same bytes.
pub read_written : (s : List ℕ) (room : ℕ) → AreBytes s → (reading_of s).refusal ≡ 0 → length s ≤ room
    → writing_of (reading_of s).facts room ≡ (0, s)
read_written s room small e h =
    let f = formed s (accepted_form s e) in
    ap (λ (f : Facts). writing_of f room) (ap (λ (r : Reading). r.facts) (accepted_reading s e))
    ∙ writes_facts (facts_of s) room (room_for s room f.whole h) (accepted_facts s e)
    ∙ ap (λ (w : List ℕ). (0, w)) (bytes_back s small f)

-- Every accepted byte string has the form of a case (1 to 3), and its facts pass the tests 4 to 9.
pub accepted_passes : (s : List ℕ) → (reading_of s).refusal ≡ 0 → Formed s × (fault_of (reading_of s).facts ≡ 0)
accepted_passes s e =
    (formed s (accepted_form s e), ap (λ (r : Reading). fault_of r.facts) (accepted_reading s e) ∙ accepted_facts s e)
