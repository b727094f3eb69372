-- A head's two stores are its stretch, and so are a party's; nine stretches stored one after the other are the bytes of the facts, with the
-- rest of the buffer as it was.
use Prim.Native.Nat.{ℕ, ◌+◌, ◌≤◌}
use mathlib.Core.Path.{◌≡◌, refl, ap, ◌∙◌}
use mathlib.Core.List.{List}
use native.Mathlib.Omega.{arith}
use lib.ListN.{length}
use lib.Seq.{sets}
use Rattle.facts.specs.Numbers.{price_number}
use Rattle.wire.specs.Numbers.{bytes, elements, stored}
use Rattle.wire.specs.Laid.{laid}
use Rattle.wire.proofs.Laid.{stores}
use Rattle.forms.specs.Words.{Form, One, Two}
use Rattle.forms.specs.Forms.{form_length, form_kind, form_tail}
use Rattle.record.specs.Words.{Party, Facts}
use Rattle.record.specs.Record.{head_bytes, trade_bytes, market_bytes, flag_bytes, party_stored, list_bytes, tail_bytes, record_bytes}
use Rattle.record.proofs.Lengths.{long_as_form}

pub head_written : (form : Form) (size kind : ℕ) (o o₁ o₂ : List ℕ) → size ≡ form_length form → kind ≡ form_kind form → o₁ ≡ stored o 0 (bytes 2 size)
    → o₂ ≡ stored o₁ 2 (bytes 2 kind) → o₂ ≡ stored o 0 (head_bytes form)
head_written form size kind o o₁ o₂ is-size is-kind length kinds = rw (← is-size, ← is-kind, ← length) kinds

pub party_written : (p : Party) (at n : ℕ) (o o₁ o₂ : List ℕ) → o₁ ≡ stored o at (elements 4 p.code 0) → n ≡ price_number p.limit
    → o₂ ≡ stored o₁ (at + 4) (bytes 4 n) → o₂ ≡ party_stored o at p
party_written p at n o o₁ o₂ code limit e =
    e ∙ ap (λ (l : List ℕ). stored l (at + 4) (bytes 4 n)) code ∙ ap (λ (k : ℕ). stored (stored o at (elements 4 p.code 0)) (at + 4) (bytes 4 k)) limit

-- what the form adds, stored behind the 88 bytes, goes on with their run
tail_run : (form : Form) (o : List ℕ) → stored o 88 (form_tail form) ≡ sets o 88 (form_tail form)
tail_run One o = refl
tail_run (Two d) o = refl

pub written : (f : Facts) (o o₁ o₂ o₃ o₄ o₅ o₆ o₇ o₈ o₉ : List ℕ) → form_length f.form ≤ length o
    → o₁ ≡ stored o 0 (head_bytes f.form)
    → o₂ ≡ stored o₁ 4 (trade_bytes f.trade)
    → o₃ ≡ stored o₂ 20 (market_bytes f.market)
    → o₄ ≡ stored o₃ 44 (flag_bytes f.request)
    → o₅ ≡ party_stored o₄ 48 f.buyer
    → o₆ ≡ party_stored o₅ 56 f.seller
    → o₇ ≡ stored o₆ 64 (list_bytes f)
    → o₈ ≡ stored o₇ 68 (tail_bytes f.request.filed f.settlement)
    → o₉ ≡ stored o₈ 88 (form_tail f.form)
    → o₉ ≡ laid (record_bytes f) o
written f o o₁ o₂ o₃ o₄ o₅ o₆ o₇ o₈ o₉ h e₁ e₂ e₃ e₄ e₅ e₆ e₇ e₈ e₉ =
    stores o₉ (record_bytes f) o
    (e₉ ∙ tail_run f.form o₈
    ∙ ap (λ (l : List ℕ). sets l 88 (form_tail f.form))
    (e₈
    ∙ ap (λ (l : List ℕ). stored l 68 (tail_bytes f.request.filed f.settlement))
    (e₇ ∙ ap (λ (l : List ℕ). stored l 64 (list_bytes f))
    (e₆ ∙ ap (λ (l : List ℕ). party_stored l 56 f.seller)
    (e₅ ∙ ap (λ (l : List ℕ). party_stored l 48 f.buyer)
    (e₄ ∙ ap (λ (l : List ℕ). stored l 44 (flag_bytes f.request))
    (e₃ ∙ ap (λ (l : List ℕ). stored l 20 (market_bytes f.market)) (e₂ ∙ ap (λ (l : List ℕ). stored l 4 (trade_bytes f.trade)) e₁))))))))
    (omega (arith, long_as_form f.form f))
