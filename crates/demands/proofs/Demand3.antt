-- Demand 3 (RULE R12.5, R12.6, R13.0.3) of every two calls: what specs/Demand3.antt says of the definitions.
use Rattle.std.specs.Prelude.{ℕ, ◌≡◌, List, length, take}
use Rattle.std.proofs.Common.{sym, ap, subst, ◌∙◌}
use contract.Lifetimes.{Lfts}
use Rattle.std.specs.Borrow.{Bor, MutBor}
use Rattle.wire.specs.Laid.{laid}
use Rattle.ruling.specs.Words.{Side}
use Rattle.answer.specs.Answer.{case_of}
use Rattle.alike.specs.Cases.{AlikeBut, UntoldBytes, Blind}
use Rattle.answer.proofs as answer
use Rattle.alike.proofs.Cases as bytes
use Rattle.sheet.specs.declared.SheetAnswer.{SheetAnswer}
use Rattle.sheet.specs.Sheet.{sheet_of}
use Rattle.alike.specs.Sheets.{AlikeButOne}
use Rattle.sheet.proofs as sheet
use Rattle.desk.specs.declared.DeskSheet.{DeskSheet}
use Rattle.desk.specs.Desk.{desk_sheet}
use Rattle.desk.proofs as desk
use Rattle.demands.specs.Why as why
use Rattle.demands.specs.Demand2.{Said}
use Rattle.demands.specs.Demand3.{BlindWritten, blind_sheets}

-- ---- so every call: what is said above of the definitions, of the promises as Rattle reads them from the contracts

-- Two calls of `rule_case`, or of `desk_rule_case`, that rule such cases, in the 96 bytes that they leave.
module _ (who : Side) (κs κs' : Lfts 2) (s s' t t' : Bor (List ℕ)) (out out' o o' : MutBor (List ℕ)) (n m : ℕ) (same : AlikeBut who s.now t.now)
    (untold : UntoldBytes who s.now t.now) where
  abbrev BlindCalls : Type 0
  BlindCalls = n ≡ 0 → m ≡ 0 → Blind who s.now t.now (take 96 out'.now) (take 96 o'.now)

  blind_said : Said (case_of s.now (length out.now)).0 (case_of s.now (length out.now)).1 n out.now out'.now
      → Said (case_of t.now (length o.now)).0 (case_of t.now (length o.now)).1 m o.now o'.now → BlindCalls
  blind_said p q e e' =
      let long = bytes.alike_long who s.now t.now (why.ruled_accepted s.now _ (sym p.0 ∙ e)) (why.ruled_accepted t.now _ (sym q.0 ∙ e')) same in
      rw (why.ruled_bytes_lem s.now out.now out'.now n p e, why.ruled_bytes_lem t.now o.now o'.now m q e') (bytes.blind who s.now t.now long same untold)

  pub rule_case_blind : answer.rule_case.Reads.Post κs (s, (out, tt)) n (s', (out', tt)) → answer.rule_case.Reads.Post κs' (t, (o, tt)) m (t', (o', tt)) → BlindCalls
  rule_case_blind = blind_said

  pub desk_rule_case_blind : desk.desk_rule_case.Reads.Post κs (s, (out, tt)) n (s', (out', tt)) → desk.desk_rule_case.Reads.Post κs' (t, (o, tt)) m (t', (o', tt)) → BlindCalls
  desk_rule_case_blind = blind_said

-- Two calls of `rule_sheet`, or of `desk_rule_sheet`, on such sheets with as much room: the same answer, and buffers in which a and b were
-- written over the start, as said above.
module _ (who : Side) (κs κs' : Lfts 2) (s s' t t' : Bor (List ℕ)) (out out' o o' : MutBor (List ℕ)) (j : ℕ) (alike : AlikeButOne who s.now t.now j)
    (room : length out.now ≡ length o.now) where
  abbrev BlindBuffers : ℕ → Type 0
  BlindBuffers n =
      (a : List ℕ) × (b : List ℕ) × (out'.now ≡ laid a out.now) × (o'.now ≡ laid b o.now) × BlindWritten who s.now t.now j n a b

  -- whatever of the answer a caller is told
  sheets_said : {A : Type 0} (view : SheetAnswer → A) (r q : A)
      → Said (view (sheet_of s.now (length out.now)).0) (sheet_of s.now (length out.now)).1 r out.now out'.now
      → Said (view (sheet_of t.now (length o.now)).0) (sheet_of t.now (length o.now)).1 q o.now o'.now
      → (q ≡ r) × BlindBuffers (sheet_of s.now (length out.now)).0.refusal
  sheets_said {A} view r q p u =
      let l = length out.now in
      let d = blind_sheets who s.now t.now j alike l in
      let k = subst (λ (n : ℕ). Said (view (sheet_of t.now n).0) (sheet_of t.now n).1 q o.now o'.now) (sym room) u in
      (k.0 ∙ ap view d.0 ∙ sym p.0, ((sheet_of s.now l).1, (sheet_of t.now l).1, p.1, k.1, d.1))

  pub rule_sheet_blind : (r q : SheetAnswer) → sheet.rule_sheet.Reads.Post κs (s, (out, tt)) r (s', (out', tt))
      → sheet.rule_sheet.Reads.Post κs' (t, (o, tt)) q (t', (o', tt)) → (q ≡ r) × BlindBuffers r.refusal
  rule_sheet_blind r q p u = let d = sheets_said (λ a. a) r q p u in (d.0, rw p.0 d.1)

  pub desk_rule_sheet_blind : (r q : DeskSheet) → desk.desk_rule_sheet.Reads.Post κs (s, (out, tt)) r (s', (out', tt))
      → desk.desk_rule_sheet.Reads.Post κs' (t, (o, tt)) q (t', (o', tt)) → (q ≡ r) × BlindBuffers r.refusal
  desk_rule_sheet_blind r q p u = let d = sheets_said desk_sheet r q p u in (d.0, rw p.0 d.1)
