-- The bytes that are written for a case are those of its answer.
use Prim.Native.Nat.{ℕ}
use mathlib.Core.Path.{◌≡◌, ap, ◌∙◌}
use mathlib.Core.List.{List}
use Rattle.wire.specs.Numbers.{AreBytes, bytes, elements, number_at}
use Rattle.wire.specs.Laid.{laid}
use Rattle.wire.proofs.Numbers.{bytes_number}
use Rattle.record.specs.Record.{party_at, facts_of}
use Rattle.ruling.specs.Ruling.{ruling_of}
use Rattle.figures.specs.declared.Figures.{Figures}
use Rattle.figures.specs.Figures.{figures_of}
use Rattle.notices.specs.Records.{answer_records}
use Rattle.answer.specs.Answer.{answer_of}

-- The two codes stand at 48 and at 56, in the case and in its facts; each number that is read there is its four bytes.
pub answered : (s l m : List ℕ) (n : Figures) (buyer seller : ℕ) → AreBytes s → n ≡ figures_of (ruling_of (facts_of s)) → buyer ≡ number_at 4 s 48 → seller ≡ number_at 4 s 56
    → m ≡ laid (answer_records n (bytes 4 buyer) (bytes 4 seller)) l → m ≡ laid (answer_of (facts_of s)) l
unfolding answer_of facts_of party_at
answered s l m n buyer seller small judged bought sold wrote =
    let b : bytes 4 buyer ≡ elements 4 s 48 = ap (bytes 4) bought ∙ bytes_number s small 4 48 in
    let v : bytes 4 seller ≡ elements 4 s 56 = ap (bytes 4) sold ∙ bytes_number s small 4 56 in
    wrote ∙ cc
